-- A ring through each class of a table of 4,096 labels, and how many states have each label.
--   Numbered     every state has its own number
--   Renumbered   each of the first n states has its own number now, and every other entry is as before
--   NumberedFrom every state from n on has its own number
--   OnesFrom     every entry from n on is 1
--   StaysBelow   every state below n has an entry below n
--   Relabelled   the states with the label of `start` have the label `to` now, and every other state has the label that it had
--   Spliced      the states after p and q are exchanged, and every other state is followed by the same as before
--   Added        under `label` stands the sum of the sizes under it and under `other`, and every other size is as before
--   StaysInClass the state after a state in its ring has its label
--   Carried      a test that holds at a first state, and with each state at the one after it; and another state with the label of the first
--   Round        from each state the ring leads to each of its class: every test that is carried along the ring holds at the other state
--   class_size   how many states have the label of u
--   Sized        under the label of each state stands the size of its class
--   IsTable      a table of classes of n states: every label and every entry of the ring is below 4,096, the ring stays in each class and goes through all of it, and the
--                sizes are right; no label of the first n states is one of a further state, and each further state has its own number, is followed by itself, and is the
--                only one of its class; between the tables stand zeros
use Rattle.std.specs.Prelude.{◌≡◌, ℕ, ◌+◌, ◌<◌, ◌≤◌, Bool, true, List, ◌==◌, if◌then◌else◌, length, nat_lt, replicate, slice_index}
use Rattle.std.specs.List.{count_by}
use Rattle.register.specs.Labels.{Inside, same}

abbrev pub Numbered : List ℕ → Type 0
Numbered table = (u : ℕ) → u < 4096 → slice_index table u ≡ u

abbrev pub Renumbered : List ℕ → List ℕ → ℕ → Type 0
Renumbered old new n = (u : ℕ) → u < 4096 → slice_index new u ≡ (if nat_lt u n then u else slice_index old u)

abbrev pub NumberedFrom : ℕ → List ℕ → Type 0
NumberedFrom n table = (u : ℕ) → n ≤ u → u < 4096 → slice_index table u ≡ u

abbrev pub OnesFrom : ℕ → List ℕ → Type 0
OnesFrom n table = (u : ℕ) → n ≤ u → u < 4096 → slice_index table u ≡ 1

abbrev pub StaysBelow : ℕ → List ℕ → Type 0
StaysBelow n table = (u : ℕ) → u < n → slice_index table u < n

abbrev pub Relabelled : List ℕ → List ℕ → ℕ → ℕ → Type 0
Relabelled old new start to = (u : ℕ) → u < 4096 → slice_index new u ≡ (if same old u start then to else slice_index old u)

abbrev pub Spliced : List ℕ → List ℕ → ℕ → ℕ → Type 0
Spliced old new p q = (u : ℕ) → u < 4096 → slice_index new u ≡ (if u == p then slice_index old q else if u == q then slice_index old p else slice_index old u)

abbrev pub Added : List ℕ → List ℕ → ℕ → ℕ → Type 0
Added old new label other = (x : ℕ) → x < 4096 → slice_index new x ≡ (if x == label then slice_index old label + slice_index old other else slice_index old x)

abbrev pub StaysInClass : List ℕ → List ℕ → Type 0
StaysInClass labels ring = (u : ℕ) → u < 4096 → slice_index labels (slice_index ring u) ≡ slice_index labels u

pub record Carried (labels ring : List ℕ) : Type 0 where
  pub holds : ℕ → Bool
  pub first : ℕ
  pub other : ℕ
  pub goes_on : (u : ℕ) → u < 4096 → holds u ≡ true → holds (slice_index ring u) ≡ true
  pub first_below : first < 4096
  pub other_below : other < 4096
  pub one_class : slice_index labels first ≡ slice_index labels other
  pub begins : holds first ≡ true

abbrev pub Round : List ℕ → List ℕ → Type 0
Round labels ring = (w : Carried labels ring) → w.holds w.other ≡ true

abbrev pub class_size : List ℕ → ℕ → ℕ
class_size labels u = count_by (λ x. x == slice_index labels u) labels

abbrev pub Sized : List ℕ → List ℕ → Type 0
Sized labels sizes = (u : ℕ) → u < 4096 → slice_index sizes (slice_index labels u) ≡ class_size labels u

pub record IsTable (n : ℕ) (labels gap ring second_gap sizes : List ℕ) : Type 0 where
  pub labels_long : length labels ≡ 4096
  pub ring_long : length ring ≡ 4096
  pub sizes_long : length sizes ≡ 4096
  pub labels_inside : Inside labels
  pub ring_inside : Inside ring
  pub keeps : StaysInClass labels ring
  pub round : Round labels ring
  pub sized : Sized labels sizes
  -- of the 4,096 states the first n are there,
  pub few : n ≤ 4096
  -- and each further one is alone
  pub labels_below : StaysBelow n labels
  pub labels_from : NumberedFrom n labels
  pub ring_from : NumberedFrom n ring
  pub sizes_from : OnesFrom n sizes
  pub gap_zero : gap ≡ replicate 32 0
  pub second_gap_zero : second_gap ≡ replicate 32 0
