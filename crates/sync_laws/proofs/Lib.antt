pub mod Mutexes
pub mod Conditions
pub mod SyncRules
pub mod WokenRules
pub mod WaiterRules
pub mod KeptMutexes
pub mod KeptLocks
pub mod KeptWoken
