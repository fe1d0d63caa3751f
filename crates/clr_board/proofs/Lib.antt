mod EarlierTurns
mod Finds
mod Numbers
mod Settled
mod StateLaws
