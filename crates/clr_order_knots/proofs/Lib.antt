pub mod Gathering
pub mod Lists
pub mod PeeledEnds
pub mod Places
pub mod Tables
pub mod Those
pub mod WaitingMembers
