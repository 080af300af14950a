pub mod ListedValues
