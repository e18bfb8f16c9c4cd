-- The search: what it notes, in which order, and how it ends. Items are searched, from a first one on, by steps under letters. Each item that is
-- reached is passed over if it was seen, or ends the search, or is noted in the next cell, with the cell and the letter that it was reached from and by.
--   Kind         what a kind of search is known by: its cells and its items; the item, the origin and the letter of a cell, and the cell that is noted for these
--                (that it has them is seen in each kind); a cell for numbers that have no cell; the step from an item under a letter; whether an item was
--                seen, by the cells noted so far; whether an item ends the search
--   Progress     the cells noted so far; and the cell and the letter from and by which an item was reached that ended the search, if one was
--   Searched     the cells noted in the end; and the word by which an item was reached that ended the search, if one was
--   at           the cell of that number, or `none`
--   way          the trail of cell i
--   met          an item is reached, from this cell by this letter; an ended search stays as it is
--   spread       the letters below c have been taken from cell i, which has the item x
--   taken        the first h cells have been taken, in order, as far as there are so many, each with the letters from 0 upward
--   begun        the first item is noted in cell 0, with origin 0 and letter 0
--   searched     what a progress gives: its cells, and the trail of the cell and then the letter that ended the search
--   explore      the search from a first item, over k letters, in which at most n cells are taken
--   Unseen       a word over the letters leads from x to an item that these cells have not seen
--   Ends         a word over the letters leads from x to an item that ends the search
--   Explored     what a search from x gives, told by trails and words
--   Decided      it is explored, and nothing else is; so these statements alone settle what a search gives
use Rattle.std.specs.Prelude.{◌≡◌, ℕ, zero, suc, ◌<◌, ◌≤◌, Bool, true, false, cond, ◌||◌, List, [], ◌∷◌, ◌++◌, length, take, fold, Option, Some, None, is_some, option_map, nat_lt, slice_index_or}
use Rattle.automaton.specs.Words.{Over}
use Rattle.explore.specs.Order.{Before, First}
use Rattle.explore.specs.Trails.{trail_of}

pub record Kind : Type 1 where
  pub Cell : Type 0
  pub Item : Type 0
  pub item : Cell → Item
  pub origin : Cell → ℕ
  pub letter : Cell → ℕ
  pub cell : Item → ℕ → ℕ → Cell
  pub none : Cell
  pub step : Item → ℕ → Item
  pub seen : List Cell → Item → Bool
  pub ends : Item → Bool

pub record Progress (C : Type 0) : Type 0 where
  pub noted : List C
  pub ended : Option (ℕ × ℕ)

pub record Searched (C : Type 0) : Type 0 where
  pub noted : List C
  pub word : Option (List ℕ)

module _ (S : Kind) where
  abbrev pub at : List S.Cell → ℕ → S.Cell
  at cells i = slice_index_or cells i S.none

  abbrev pub way : List S.Cell → ℕ → List ℕ
  way cells i = trail_of S.origin S.letter cells i

  abbrev pub met : Progress S.Cell → S.Item → ℕ → ℕ → Progress S.Cell
  met s x i a = cond (is_some s.ended || S.seen s.noted x) s (cond (S.ends x) (record { noted = s.noted; ended = Some (i, a) }) (record { noted = s.noted ++ (S.cell x i a ∷ []); ended = None }))

  unfoldable pub spread : Progress S.Cell → S.Item → ℕ → ℕ → Progress S.Cell
  spread s x i zero = s
  spread s x i (suc c) = met (spread s x i c) (S.step x c) i c

  unfoldable pub taken : ℕ → Progress S.Cell → ℕ → Progress S.Cell
  taken k s zero = s
  taken k s (suc h) = cond (nat_lt h (length (taken k s h).noted)) (spread (taken k s h) (S.item (at (taken k s h).noted h)) h k) (taken k s h)

  abbrev pub begun : S.Item → Progress S.Cell
  begun x = record { noted = S.cell x 0 0 ∷ []; ended = None }

  abbrev pub searched : Progress S.Cell → Searched S.Cell
  searched s = record { noted = s.noted; word = option_map (λ e. way s.noted e.0 ++ (e.1 ∷ [])) s.ended }

  abbrev pub explore : ℕ → ℕ → S.Item → Searched S.Cell
  explore k n x = cond (S.seen [] x) (record { noted = []; word = None }) (cond (S.ends x) (record { noted = []; word = Some [] }) (searched (taken k (begun x) n)))

  pub record Unseen (k : ℕ) (x : S.Item) (cells : List S.Cell) (w : List ℕ) : Type 0 where
    pub over : Over k w
    pub unseen : S.seen cells (fold S.step x w) ≡ false

  pub record Ends (k : ℕ) (x : S.Item) (w : List ℕ) : Type 0 where
    pub over : Over k w
    pub ends : S.ends (fold S.step x w) ≡ true

  pub record Explored (k n : ℕ) (x : S.Item) (r : Searched S.Cell) : Type 0 where
    -- no more than n cells are noted
    pub few : length r.noted ≤ n
    -- the trail of each cell is the first word that leads to an item unseen by the cells before it,
    pub next : (i : ℕ) → i < length r.noted → First (Unseen k x (take i r.noted)) (way r.noted i)
    -- the cell has that item,
    pub leads : (i : ℕ) → i < length r.noted → fold S.step x (way r.noted i) ≡ S.item (at r.noted i)
    -- and the item does not end the search
    pub goes_on : (i : ℕ) → i < length r.noted → S.ends (S.item (at r.noted i)) ≡ false
    -- cell 0 has origin 0 and letter 0
    pub begins : 0 < length r.noted → (S.origin (at r.noted 0) ≡ 0) × (S.letter (at r.noted 0) ≡ 0)
    -- the origin of every other cell stands before it
    pub back : (i : ℕ) → 0 < i → i < length r.noted → S.origin (at r.noted i) < i
    -- the trails rise
    pub rising : (i j : ℕ) → i < j → j < length r.noted → Before (way r.noted i) (way r.noted j)
    -- if no word was found, every word leads to an item that the cells have seen,
    pub all_seen : r.word ≡ None → (w : List ℕ) → Unseen k x r.noted w → ⊥
    -- and none to one that ends the search
    pub none : r.word ≡ None → (w : List ℕ) → Ends k x w → ⊥
    -- a word that was found is the first that leads to an unseen item,
    pub last : (w : List ℕ) → r.word ≡ Some w → First (Unseen k x r.noted) w
    -- and the first that leads to one that ends the search,
    pub first : (w : List ℕ) → r.word ≡ Some w → First (Ends k x) w
    -- and it is no longer than the number of cells
    pub short : (w : List ℕ) → r.word ≡ Some w → length w ≤ length r.noted

  pub record Decided (k n : ℕ) (x : S.Item) (r : Searched S.Cell) : Type 0 where
    pub explored : Explored k n x r
    pub only : (s : Searched S.Cell) → Explored k n x s → s ≡ r
