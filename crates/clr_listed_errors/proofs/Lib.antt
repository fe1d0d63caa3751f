mod ListedLemmas
