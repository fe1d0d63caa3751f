mod HelperLemmas
mod ListLemmas
mod Possible
mod Unhelped
