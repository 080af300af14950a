pub mod Stacks
pub mod TransferCalls
pub mod RingOrders
pub mod RingCheckCalls
pub mod RingSortCalls
