mod LineEnds
mod LinedTexts
