mod DesignLemmas
mod ReasonLemmas
