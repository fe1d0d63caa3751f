mod PlaceLemmas
mod RangeLemmas
mod RecordLemmas
mod RefusalLemmas
