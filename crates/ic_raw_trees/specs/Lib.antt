pub mod TreeMoveCalls
