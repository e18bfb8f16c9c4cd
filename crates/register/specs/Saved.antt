-- Saved entries of a table of classes.
--   IsSaved   the first of them, as many as these classes have states, are those of the classes: of the labels, of the ring and of the sizes
use Rattle.std.specs.Prelude.{◌≡◌, ℕ, take}
use Rattle.register.specs.declared.classes.Classes.{Classes}
use Rattle.register.specs.declared.classes.Saved.{Saved}

pub record IsSaved {n : ℕ} (classes : Classes) (saved : Saved n) : Type 0 where
  pub labels : take classes.states saved.labels ≡ take classes.states classes.labels
  pub ring : take classes.states saved.ring ≡ take classes.states classes.ring
  pub sizes : take classes.states saved.sizes ≡ take classes.states classes.sizes
