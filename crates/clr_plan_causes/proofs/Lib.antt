pub mod CauseLemmas
pub mod MeetingLemmas
