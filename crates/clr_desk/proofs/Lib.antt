mod CutMarkLemmas
mod OneAgain
mod OneAnswer
mod OneChoice
mod OneCut
mod OneDeskAnswer
mod OnePrint
mod Untorn
