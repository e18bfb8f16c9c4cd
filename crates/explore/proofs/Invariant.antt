-- What lasts through a search.
use Rattle.std.proofs.Common.{◌≡◌, ℕ, suc, ◌+◌, ◌<◌, ◌≤◌, true, false, ◌⊎◌, List, [], ◌∷◌, ◌++◌, length, take, fold, refl, sym, subst, ap, ◌∙◌, inl, inr, arith}
use Rattle.automaton.specs.Words.{Over}
use Rattle.explore.specs.Order.{Before}
use Rattle.explore.specs.Search.{Kind, at, way}
use Rattle.explore.proofs.Noted.{Each, each_more, at_new, at_old, way_old, way_new, at_take}
use Rattle.explore.proofs.Order.{last, over_last, over_end, fold_keeps, before_zero, before_suc}
use Rattle.explore.proofs.Trails.{length_end}
use Rattle.std.proofs.Math.Nat.{eq-or-lt_of_le}
use Rattle.std.proofs.Math.Seq.{take-append_seam}
use Rattle.std.proofs.lemmas.List.{length-take-le, take-append-le}
use Rattle.std.proofs.lemmas.List.Sums.{fold-append}

-- the cells have items of In
abbrev pub AllIn : (S : Kind) → (S.Item → Type 0) → List S.Cell → Type 0
AllIn S In cells = (j : ℕ) → j < length cells → In (S.item (at S cells j))

-- what a kind of search must keep: In holds of the items met, and size is the number of cells that there is still room for
pub record LawfulKind (S : Kind) (k : ℕ) (In : S.Item → Type 0) (size : List S.Cell → ℕ) : Type 0 where
  pub item_noted : (x : S.Item) (i a : ℕ) → S.item (S.cell x i a) ≡ x
  pub origin_noted : (x : S.Item) (i a : ℕ) → S.origin (S.cell x i a) ≡ i
  pub letter_noted : (x : S.Item) (i a : ℕ) → S.letter (S.cell x i a) ≡ a
  pub whole : (c : S.Cell) → S.cell (S.item c) (S.origin c) (S.letter c) ≡ c
  pub in_step : (x : S.Item) (a : ℕ) → a < k → In x → In (S.step x a)
  pub seen_new : (cells : List S.Cell) (c : S.Cell) → AllIn S In cells → In (S.item c) → S.seen (cells ++ (c ∷ [])) (S.item c) ≡ true
  pub seen_more : (cells : List S.Cell) (c : S.Cell) (x : S.Item) → S.seen cells x ≡ true → S.seen (cells ++ (c ∷ [])) x ≡ true
  -- where no cell's item ends the search, no item that was seen does
  pub seen_goes : (cells : List S.Cell) → AllIn S In cells → ((j : ℕ) → j < length cells → S.ends (S.item (at S cells j)) ≡ false) →
      (x : S.Item) → In x → S.seen cells x ≡ true → S.ends x ≡ false
  -- where the steps from every old cell were seen, so were those from every item that the old cells have seen
  pub seen_step : (old cells : List S.Cell) → AllIn S In old → AllIn S In cells →
      ((j a : ℕ) → j < length old → a < k → S.seen cells (S.step (S.item (at S old j)) a) ≡ true) →
      (x : S.Item) (a : ℕ) → In x → a < k → S.seen old x ≡ true → S.seen cells (S.step x a) ≡ true
  pub room : (cells : List S.Cell) (x : S.Item) (i a : ℕ) → AllIn S In cells → In x → S.seen cells x ≡ false → suc (size (cells ++ (S.cell x i a ∷ []))) ≡ size cells

module _ (S : Kind) (k : ℕ) (In : S.Item → Type 0) (size : List S.Cell → ℕ) (x₀ : S.Item) where
  -- cell j, whose trail is w
  pub record Good (j : ℕ) (c : S.Cell) (w : List ℕ) : Type 0 where
    pub goes : S.ends (S.item c) ≡ false
    pub leads : fold S.step x₀ w ≡ S.item c
    pub over : Over k w
    pub within : In (S.item c)
    pub low : length w ≤ j
    pub back : 0 < j → S.origin c < j
    pub begins : j ≡ 0 → (S.origin c ≡ 0) × (S.letter c ≡ 0)

  -- every word before v leads to what the cells have seen
  abbrev pub Passed : List S.Cell → List ℕ → Type 0
  Passed cells v = (w : List ℕ) → Over k w → Before w v → S.seen cells (fold S.step x₀ w) ≡ true

  -- for each cell, with the cells before it: every word before its trail leads to what these have seen, and its item is new to them
  pub record Fresh (cells : List S.Cell) (j : ℕ) : Type 0 where
    pub passed : Passed (take j cells) (way S cells j)
    pub unseen : S.seen (take j cells) (S.item (at S cells j)) ≡ false

  -- the noted cells are good and new, and each has taken some of the room that there was
  pub record Sound (cells : List S.Cell) : Type 0 where
    pub good : Each S Good cells
    pub fresh : (j : ℕ) → j < length cells → Fresh cells j
    pub few : length cells + size cells ≡ size []
    pub holds : S.seen cells x₀ ≡ true

  -- of the cells below i every letter is taken
  pub record Inv (i : ℕ) (cells : List S.Cell) : Type 0 where
    pub sound : Sound cells
    pub taken : (j a : ℕ) → j < i → j < length cells → a < k → S.seen cells (S.step (S.item (at S cells j)) a) ≡ true

  -- and of cell i, which has x, the letters below a
  pub record InRow (x : S.Item) (i a : ℕ) (cells : List S.Cell) : Type 0 where
    pub inv : Inv i cells
    pub within : i < length cells
    pub same : S.item (at S cells i) ≡ x
    pub done : (b : ℕ) → b < a → S.seen cells (S.step x b) ≡ true
    pub earlier : Passed cells (way S cells i ++ (a ∷ []))

  pub all_in : {cells : List S.Cell} → Sound cells → AllIn S In cells
  all_in s j h = (s.good j h).within

  module _ (law : LawfulKind S k In size) (in₀ : In x₀) where
    pub reached : (w : List ℕ) → Over k w → In (fold S.step x₀ w)
    reached w o = fold_keeps S.step In k (λ x a h i. law.in_step x a h i) w o x₀ in₀

    one_more : (cells : List S.Cell) (t : List ℕ) (a : ℕ) → Passed cells (t ++ (a ∷ [])) → S.seen cells (S.step (fold S.step x₀ t) a) ≡ true → Passed cells (t ++ (suc a ∷ []))
    one_more cells t a p h w over b = go (before_suc w t a b)
      where
        go : (w ≡ t ++ (a ∷ [])) ⊎ Before w (t ++ (a ∷ [])) → S.seen cells (fold S.step x₀ w) ≡ true
        go (inl e) = rw (e, fold-append S.step x₀ t (a ∷ [])) h
        go (inr l) = p w over l

    -- the letter a leads to an item that was seen
    pub passing : {x : S.Item} {i a : ℕ} {cells : List S.Cell} → InRow x i a cells → S.seen cells (S.step x a) ≡ true → InRow x i (suc a) cells
    passing {x} {i} {a} {cells} r t = record {
      inv = r.inv;
      within = r.within;
      same = r.same;
      done = λ b h. go b (eq-or-lt_of_le {n = b} {m = a} (omega arith));
      earlier = one_more cells (way S cells i) a r.earlier (rw ((r.inv.sound.good i r.within).leads, r.same) t);
    }
      where
        go : (b : ℕ) → (b ≡ a) ⊎ (b < a) → S.seen cells (S.step x b) ≡ true
        go b (inl e) = rw e t
        go b (inr h) = r.done b h

    -- the letter a leads to a new item, which is noted
    pub noting : {x : S.Item} {i a : ℕ} {cells : List S.Cell} → InRow x i a cells → a < k →
        S.seen cells (S.step x a) ≡ false → S.ends (S.step x a) ≡ false → InRow x i (suc a) (cells ++ (S.cell (S.step x a) i a ∷ []))
    noting {x} {i} {a} {cells} r below f e = record {
      inv = record {
        sound = record {
          good = each_more S Good cells c v.sound.good good_new;
          fresh = λ j h. fresh j (eq-or-lt_of_le {n = j} {m = length cells} (omega (arith, length_end cells c)));
          few = omega (arith, v.sound.few, law.room cells (S.step x a) i a ins in_new f, length_end cells c);
          holds = law.seen_more cells c x₀ v.sound.holds;
        };
        taken = λ j b h m l. rw (at_old S cells c j (omega (arith, r.within))) (law.seen_more cells c _ (v.taken j b h (omega (arith, r.within)) l));
      };
      within = omega (arith, r.within, length_end cells c);
      same = ap S.item (at_old S cells c i r.within) ∙ r.same;
      done = λ b h. go b (eq-or-lt_of_le {n = b} {m = a} (omega arith));
      earlier = rw (way_old S cells c i r.within) (one_more more (way S cells i) a (λ w o b. law.seen_more cells c _ (r.earlier w o b)) (rw (g.leads, r.same) new_seen));
    }
      where
        c : S.Cell
        c = S.cell (S.step x a) i a

        more : List S.Cell
        more = cells ++ (c ∷ [])

        v : Inv i cells
        v = r.inv

        ins : AllIn S In cells
        ins = all_in v.sound

        g : Good i (at S cells i) (way S cells i)
        g = v.sound.good i r.within

        item_is : S.item c ≡ S.step x a
        item_is = law.item_noted (S.step x a) i a

        in_new : In (S.step x a)
        in_new = law.in_step x a below (subst In r.same g.within)

        new_way : way S more (length cells) ≡ way S cells i ++ (a ∷ [])
        new_way = way_new S cells c (rw (law.origin_noted (S.step x a) i a) r.within) ∙ rw (law.origin_noted (S.step x a) i a, law.letter_noted (S.step x a) i a) refl

        good_new : Good (length cells) c (way S more (length cells))
        good_new = rw new_way record {
          goes = rw item_is e;
          leads = fold-append S.step x₀ (way S cells i) (a ∷ []) ∙ ap (λ z. S.step z a) (g.leads ∙ r.same) ∙ sym item_is;
          over = over_end k (way S cells i) a g.over below;
          within = rw item_is in_new;
          low = omega (arith, length_end (way S cells i) a, g.low, r.within);
          back = λ _. rw (law.origin_noted (S.step x a) i a) r.within;
          begins = λ e. absurd (omega (arith, r.within));
        }

        new_seen : S.seen more (S.step x a) ≡ true
        new_seen = subst (λ (y : S.Item). S.seen more y ≡ true) item_is (law.seen_new cells c ins (rw item_is in_new))

        fresh : (j : ℕ) → (j ≡ length cells) ⊎ (j < length cells) → Fresh more j
        fresh j (inl l) = rw l record { passed = rw (take-append_seam cells (c ∷ []), new_way) r.earlier; unseen = rw (take-append_seam cells (c ∷ []), at_new S cells c, item_is) f }
        fresh j (inr l) =
            let o : Fresh cells j = v.sound.fresh j l in
            record { passed = rw (take-append-le j cells (c ∷ []) (omega arith), way_old S cells c j l) o.passed; unseen = rw (take-append-le j cells (c ∷ []) (omega arith), at_old S cells c j l) o.unseen }

        go : (b : ℕ) → (b ≡ a) ⊎ (b < a) → S.seen more (S.step x b) ≡ true
        go b (inl l) = rw l new_seen
        go b (inr h) = law.seen_more cells c _ (r.done b h)

    -- the next cell: a word before its trail and the letter 0 is empty, or one step after a word before its trail
    pub begin : {i : ℕ} {cells : List S.Cell} → Inv i cells → i < length cells → InRow (S.item (at S cells i)) i 0 cells
    begin {i} {cells} v h = record { inv = v; within = h; same = refl; done = λ b l. absurd (omega arith); earlier = λ w o b. go w (last w) o b }
      where
        old : List S.Cell
        old = take i cells

        old_length : length old ≡ i
        old_length = length-take-le i cells (omega arith)

        ins : AllIn S In cells
        ins = all_in v.sound

        old_in : AllIn S In old
        old_in j l = rw (at_take S cells i j (rw old_length at l)) (ins j (omega (arith, old_length)))

        steps : (j a : ℕ) → j < length old → a < k → S.seen cells (S.step (S.item (at S old j)) a) ≡ true
        steps j a l m = rw (at_take S cells i j (rw old_length at l)) (v.taken j a (omega (arith, old_length)) (omega (arith, old_length)) m)

        go : (w : List ℕ) → (w ≡ []) ⊎ ((u : List ℕ) × (b : ℕ) × (w ≡ u ++ (b ∷ []))) → Over k w → Before w (way S cells i ++ (0 ∷ [])) → S.seen cells (fold S.step x₀ w) ≡ true
        go w (inl e) o b = rw e v.sound.holds
        go w (inr r) o b =
            let m : Over k r.0 × (r.1 < k) = over_last k r.0 r.1 (rw r.2 at o) in
            let t : S.seen old (fold S.step x₀ r.0) ≡ true = (v.sound.fresh i h).passed r.0 m.0 (before_zero r.0 (way S cells i) r.1 (rw r.2 at b)) in
            rw (r.2, fold-append S.step x₀ r.0 (r.1 ∷ [])) (law.seen_step old cells old_in ins steps _ r.1 (reached r.0 m.0) m.1 t)

    -- cell i is done
    pub onward : {x : S.Item} {i : ℕ} {cells : List S.Cell} → InRow x i k cells → Inv (suc i) cells
    onward {x} {i} {cells} r = record { sound = r.inv.sound; taken = λ j b h m l. go j b l m (eq-or-lt_of_le {n = j} {m = i} (omega arith)) }
      where
        go : (j b : ℕ) → b < k → j < length cells → (j ≡ i) ⊎ (j < i) → S.seen cells (S.step (S.item (at S cells j)) b) ≡ true
        go j b l m (inl e) = rw (e, r.same) (r.done b l)
        go j b l m (inr h) = r.inv.taken j b h m l
