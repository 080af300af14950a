-- An insert in order inserts an object where its key belongs. All calls of this kind state their results by these definitions.
pub use Rattle.ic_cursors.specs.Ordered.{InsertsInOrder, InsertsAmong}
