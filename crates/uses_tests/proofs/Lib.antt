pub mod SecondTicks
