-- Which words are trails of cells, told from what a search gives.
use Rattle.std.proofs.Common.{◌≡◌, ℕ, zero, suc, ◌<◌, ◌≤◌, true, false, ◌⊎◌, List, length, take, fold, subst, sym, inl, inr, arith}
use Rattle.std.proofs.Math.Nat.{eq-or-lt_of_le}
use Rattle.std.proofs.lemmas.Bool.{cases_Bool}
use Rattle.automaton.specs.Words.{Over}
use Rattle.explore.specs.Order.{Before, First}
use Rattle.explore.specs.Search.{Explored, Kind, Searched, Unseen, way}
use Rattle.explore.proofs.Order.{before_one_way, before_total, before_trans}

-- w is the trail of a cell
abbrev pub TrailOf : (S : Kind) → List S.Cell → List ℕ → Type 0
TrailOf S cells w = (i : ℕ) × (i < length cells) × (way S cells i ≡ w)

module _ (S : Kind) (k : ℕ) (x : S.Item) where
  -- what comes before the first word that leads to an unseen item leads to what was seen
  pub seen_before : (cells : List S.Cell) (w v : List ℕ) → First (Unseen S k x cells) w → Over k v → Before v w → S.seen cells (fold S.step x v) ≡ true
  seen_before cells w v f o b = go (cases_Bool (S.seen cells (fold S.step x v)))
    where
      late : (w ≡ v) ⊎ Before w v → ⊥
      late (inl e) = before_one_way v v (subst (λ (u : List ℕ). Before v u) e b) (subst (λ (u : List ℕ). Before v u) e b)
      late (inr c) = before_one_way v w b c

      go : (S.seen cells (fold S.step x v) ≡ true) ⊎ (S.seen cells (fold S.step x v) ≡ false) → S.seen cells (fold S.step x v) ≡ true
      go (inl t) = t
      go (inr e) = absurd (late (f.1 v record { over = o; unseen = e }))

  -- the first j cells have trails that come before w, and have seen what it leads to
  pub record SeenBy (cells : List S.Cell) (w : List ℕ) (j : ℕ) : Type 0 where
    pub within : j ≤ length cells
    pub earlier : (i : ℕ) → i < j → Before (way S cells i) w
    pub seen : S.seen (take j cells) (fold S.step x w) ≡ true

  abbrev pub Told : List S.Cell → List ℕ → Type 0
  Told cells w = TrailOf S cells w ⊎ ((j : ℕ) × SeenBy cells w j)

  module _ (n : ℕ) (r : Searched S.Cell) (e : Explored S k n x r) where
    -- a word that leads to what cells have seen is a trail, or leads to what the cells with trails before it have seen
    pub told : (w : List ℕ) → Over k w → (j : ℕ) → j ≤ length r.noted → S.seen (take j r.noted) (fold S.step x w) ≡ true → Told r.noted w
    told w o zero h t = inr (0, record { within = h; earlier = λ i l. absurd (omega arith); seen = t })
    told w o (suc j) h t = go (before_total (way S r.noted j) w) (λ s. told w o j (omega arith) s)
      where
        earlier : Before (way S r.noted j) w → (i : ℕ) → i < suc j → Before (way S r.noted i) w
        earlier b i l = one (eq-or-lt_of_le {n = i} {m = j} (omega arith))
          where
            one : (i ≡ j) ⊎ (i < j) → Before (way S r.noted i) w
            one (inl m) = subst (λ (u : ℕ). Before (way S r.noted u) w) (sym m) b
            one (inr m) = before_trans _ _ w (e.rising i j m (omega arith)) b

        go : ((way S r.noted j ≡ w) ⊎ Before (way S r.noted j) w) ⊎ Before w (way S r.noted j) →
            (S.seen (take j r.noted) (fold S.step x w) ≡ true → Told r.noted w) → Told r.noted w
        go (inl (inl m)) down = inl (j, omega arith, m)
        go (inl (inr b)) down = inr (suc j, record { within = h; earlier = earlier b; seen = t })
        go (inr b) down = down (seen_before (take j r.noted) (way S r.noted j) w (e.next j (omega arith)) o b)
