mod Fetched
mod Unconfined
