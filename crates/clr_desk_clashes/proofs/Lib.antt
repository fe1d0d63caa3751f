mod ShownSets
