pub mod OrderSentences
