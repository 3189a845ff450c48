-- Examples: contacts and ledgers that the claim allows and refuses.
pub mod Refused
pub mod LedgerRefused
