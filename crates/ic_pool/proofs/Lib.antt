pub mod Pooling
