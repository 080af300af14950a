pub mod StepLaws
pub mod SortedLaws
pub mod SoundCalls
pub mod SoundFamilies
pub mod KeepsSound
pub mod InsertionOrderLists
pub mod KeepsOrder
pub mod RunLaws
