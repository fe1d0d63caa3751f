mod FoundOrders
mod PrintedChoices
mod TryingInOrder
