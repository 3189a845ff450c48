pub mod Queues
pub mod CallLists
