-- What a search comes to.
use Rattle.std.proofs.Common.{◌≡◌, ℕ, zero, suc, ◌+◌, ◌<◌, ◌≤◌, true, false, cond, ◌⊎◌, List, [], ◌∷◌, ◌++◌, length, take, fold, Some, None, refl, sym, subst, ap, ◌∙◌, inl, inr, arith}
use Rattle.std.specs.Prelude.{is_some, nat_lt, option_map}
use Rattle.std.proofs.lemmas.Bool.{both_ways, cases_eq, cases_Bool, ltb-true, ltb-false}
use Rattle.std.proofs.lemmas.Option.{none-some, same_Some}
use Rattle.std.proofs.Math.Seq.{take-suc}
use Rattle.std.proofs.lemmas.List.{length-take-le}
use Rattle.std.proofs.lemmas.List.Sums.{fold-append}
use Rattle.automaton.specs.Words.{Over}
use Rattle.explore.specs.Order.{Before, First}
use Rattle.explore.specs.Search.{Kind, Progress, Searched, at, way, met, spread, taken, begun, searched, explore, Unseen, Ends, Explored}
use Rattle.explore.proofs.Noted.{Each, at_take, way_first}
use Rattle.explore.proofs.Order.{before_none, before_total, over_end, fold_keeps}
use Rattle.explore.proofs.Trails.{length_end}
use Rattle.explore.proofs.Invariant.{AllIn, LawfulKind, Good, Passed, Fresh, Sound, Inv, InRow, all_in, reached, passing, noting, begin, onward}

module _ (S : Kind) (k : ℕ) (In : S.Item → Type 0) (size : List S.Cell → ℕ) (x₀ : S.Item) where
  -- the letter a of cell i leads to an item that ends the search
  pub record Stopped (s : Progress S.Cell) : Type 0 where
    pub i : ℕ
    pub a : ℕ
    pub ended : s.ended ≡ Some (i, a)
    pub row : InRow S k In size x₀ (S.item (at S s.noted i)) i a s.noted
    pub below : a < k
    pub unseen : S.seen s.noted (S.step (S.item (at S s.noted i)) a) ≡ false
    pub ends : S.ends (S.step (S.item (at S s.noted i)) a) ≡ true

  pub record Going (I : List S.Cell → Type 0) (s : Progress S.Cell) : Type 0 where
    pub unended : s.ended ≡ None
    pub inv : I s.noted

  -- of a word that was found
  pub record Ended (cells : List S.Cell) (w : List ℕ) : Type 0 where
    pub ends : Ends S k x₀ w
    pub earlier : Passed S k In size x₀ cells w
    pub unseen : S.seen cells (fold S.step x₀ w) ≡ false
    pub short : length w ≤ length cells

  -- what a search has come to in the end
  pub record Come (r : Searched S.Cell) : Type 0 where
    pub good : Each S (Good S k In size x₀) r.noted
    pub fresh : (j : ℕ) → j < length r.noted → Fresh S k In size x₀ r.noted j
    pub room : length r.noted + size r.noted ≡ size []
    pub closed : r.word ≡ None → Inv S k In size x₀ (length r.noted) r.noted
    pub ended : (w : List ℕ) → r.word ≡ Some w → Ended r.noted w

  abbrev State : (List S.Cell → Type 0) → Progress S.Cell → Type 0
  State I s = Going I s ⊎ Stopped s

  module _ (law : LawfulKind S k In size) (in₀ : In x₀) where
    -- an item is reached from cell i, of which the letters below c are taken
    met_next : (s : Progress S.Cell) (x : S.Item) (i c : ℕ) → c < k → Going (InRow S k In size x₀ x i c) s → State (InRow S k In size x₀ x i (suc c)) (met S s (S.step x c) i c)
    met_next s x i c h g = go (cases_Bool (S.seen s.noted (S.step x c))) (cases_Bool (S.ends (S.step x c)))
      where
        open_yet : is_some s.ended ≡ false
        open_yet = ap is_some g.unended

        go : (S.seen s.noted (S.step x c) ≡ true) ⊎ (S.seen s.noted (S.step x c) ≡ false) → (S.ends (S.step x c) ≡ true) ⊎ (S.ends (S.step x c) ≡ false) →
            State (InRow S k In size x₀ x i (suc c)) (met S s (S.step x c) i c)
        go (inl t) e = rw (open_yet, t) (inl record { unended = g.unended; inv = passing S k In size x₀ law in₀ g.inv t })
        go (inr f) (inl e) = rw (open_yet, f, e) (inr record { i = i; a = c; ended = refl; row = rw g.inv.same g.inv; below = h; unseen = rw g.inv.same f; ends = rw g.inv.same e })
        go (inr f) (inr e) = rw (open_yet, f, e) (inl record { unended = refl; inv = noting S k In size x₀ law in₀ g.inv h f e })

    met_stopped : (s : Progress S.Cell) (y : S.Item) (i a : ℕ) → Stopped s → Stopped (met S s y i a)
    met_stopped s y i a t = let e : is_some s.ended ≡ true = ap is_some t.ended in rw e t

    spread_stopped : (s : Progress S.Cell) (x : S.Item) (i c : ℕ) → Stopped s → Stopped (spread S s x i c)
    unfolding spread
    spread_stopped s x i zero t = t
    spread_stopped s x i (suc c) t = met_stopped (spread S s x i c) (S.step x c) i c (spread_stopped s x i c t)

    -- all letters of one cell
    spread_all : (s : Progress S.Cell) (x : S.Item) (i c : ℕ) → c ≤ k → Going (InRow S k In size x₀ x i 0) s → State (InRow S k In size x₀ x i c) (spread S s x i c)
    unfolding spread
    spread_all s x i zero h g = inl g
    spread_all s x i (suc c) h g = go (spread_all s x i c (omega arith) g)
      where
        go : State (InRow S k In size x₀ x i c) (spread S s x i c) → State (InRow S k In size x₀ x i (suc c)) (met S (spread S s x i c) (S.step x c) i c)
        go (inl t) = met_next (spread S s x i c) x i c (omega arith) t
        go (inr t) = inr (met_stopped (spread S s x i c) (S.step x c) i c t)

    -- the first h cells
    taken_all : (s : Progress S.Cell) (h : ℕ) → Going (Inv S k In size x₀ 0) s → State (Inv S k In size x₀ h) (taken S k s h)
    unfolding taken
    taken_all s zero g = inl g
    taken_all s (suc h) g = go (taken_all s h g) (cases_Bool (nat_lt h (length t.noted)))
      where
        t : Progress S.Cell
        t = taken S k s h

        x : S.Item
        x = S.item (at S t.noted h)

        next : State (InRow S k In size x₀ x h k) (spread S t x h k) → State (Inv S k In size x₀ (suc h)) (spread S t x h k)
        next (inl o) = inl record { unended = o.unended; inv = onward S k In size x₀ law in₀ o.inv }
        next (inr o) = inr o

        start : Going (Inv S k In size x₀ h) t → h < length t.noted → Going (InRow S k In size x₀ x h 0) t
        start o l = record { unended = o.unended; inv = begin S k In size x₀ law in₀ o.inv l }

        done : Going (Inv S k In size x₀ h) t → length t.noted ≤ h → Going (Inv S k In size x₀ (suc h)) t
        done o l = record { unended = o.unended; inv = record { sound = o.inv.sound; taken = λ j a m n b. o.inv.taken j a (omega arith) n b } }

        go : State (Inv S k In size x₀ h) t → (nat_lt h (length t.noted) ≡ true) ⊎ (nat_lt h (length t.noted) ≡ false) →
            State (Inv S k In size x₀ (suc h)) (cond (nat_lt h (length t.noted)) (spread S t x h k) t)
        go (inl o) (inl e) = rw e (next (spread_all t x h k (omega arith) (start o (ltb-true h (length t.noted) e))))
        go (inl o) (inr e) = rw e (inl (done o (ltb-false h (length t.noted) e)))
        go (inr o) (inl e) = rw e (inr (spread_stopped t x h k o))
        go (inr o) (inr e) = rw e (inr o)

    first : S.seen [] x₀ ≡ false → S.ends x₀ ≡ false → Going (Inv S k In size x₀ 0) (begun S x₀)
    first f e = record { unended = refl; inv = record { sound = sound; taken = λ j a h. absurd (omega arith) } }
      where
        c : S.Cell
        c = S.cell x₀ 0 0

        item_is : S.item c ≡ x₀
        item_is = law.item_noted x₀ 0 0

        none_in : AllIn S In []
        none_in j h = absurd (omega arith)

        only : (j : ℕ) → j < length (c ∷ []) → j ≡ 0
        only j h = omega (arith, h)

        good : Good S k In size x₀ 0 c []
        good = record { goes = rw item_is e; leads = sym item_is; over = tt; within = rw item_is in₀; low = omega arith; back = λ h. absurd (omega arith); begins = λ _. (law.origin_noted x₀ 0 0, law.letter_noted x₀ 0 0) }

        sound : Sound S k In size x₀ (c ∷ [])
        sound = record {
          good = λ j h. rw (only j h, way_first S (c ∷ [])) good;
          fresh = λ j h. rw (only j h) record { passed = λ w o b. absurd (before_none w (rw (way_first S (c ∷ [])) at b)); unseen = rw item_is f };
          few = omega (arith, law.room [] x₀ 0 0 none_in in₀ f);
          holds = subst (λ (y : S.Item). S.seen (c ∷ []) y ≡ true) item_is (law.seen_new [] c none_in (rw item_is in₀));
        }

    -- where every letter of every noted cell is taken, every word leads to an item that was seen
    pub all_seen : {cells : List S.Cell} → Inv S k In size x₀ (length cells) cells → (w : List ℕ) → Over k w → S.seen cells (fold S.step x₀ w) ≡ true
    all_seen {cells} v w o = (fold_keeps S.step (λ x. In x × (S.seen cells x ≡ true)) k step w o x₀ (in₀, v.sound.holds)).1
      where
        ins : AllIn S In cells
        ins = all_in S k In size x₀ v.sound

        step : (x : S.Item) (a : ℕ) → a < k → In x × (S.seen cells x ≡ true) → In (S.step x a) × (S.seen cells (S.step x a) ≡ true)
        step x a h t = (law.in_step x a h t.0, law.seen_step cells cells ins ins (λ j b m n. v.taken j b m m n) x a t.0 h t.1)

    goes : {cells : List S.Cell} → Each S (Good S k In size x₀) cells → (w : List ℕ) → Over k w → S.seen cells (fold S.step x₀ w) ≡ true → S.ends (fold S.step x₀ w) ≡ false
    goes {cells} g w o t = law.seen_goes cells (λ j h. (g j h).within) (λ j h. (g j h).goes) _ (reached S k In size x₀ law in₀ w o) t

    -- what was seen stays seen
    seen_take : (cells : List S.Cell) (i j : ℕ) → i ≤ j → j ≤ length cells → (x : S.Item) → S.seen (take i cells) x ≡ true → S.seen (take j cells) x ≡ true
    seen_take cells i zero h l x t = let e : i ≡ 0 = omega arith in rw e at t
    seen_take cells i (suc j) h l x t = go (cases_eq i (suc j)) (λ m. seen_take cells i j m (omega arith) x t)
      where
        go : (i ≡ suc j) ⊎ (i ≡ suc j → ⊥) → (i ≤ j → S.seen (take j cells) x ≡ true) → S.seen (take (suc j) cells) x ≡ true
        go (inl e) ih = rw e at t
        go (inr n) ih = rw (take-suc cells j S.none (omega arith)) (law.seen_more (take j cells) (at S cells j) x (ih (omega arith)))

    seen_own : (cells : List S.Cell) → AllIn S In cells → (i : ℕ) → i < length cells → S.seen (take (suc i) cells) (S.item (at S cells i)) ≡ true
    seen_own cells ins i h = rw (take-suc cells i S.none h) (law.seen_new (take i cells) (at S cells i) old (ins i h))
      where
        old : AllIn S In (take i cells)
        old j l =
            let long : length (take i cells) ≡ i = length-take-le i cells (omega arith) in
            rw (at_take S cells i j (omega arith)) (ins j (omega arith))

    -- the trails rise
    rising : {cells : List S.Cell} → Each S (Good S k In size x₀) cells → ((j : ℕ) → j < length cells → Fresh S k In size x₀ cells j) →
        (i j : ℕ) → i < j → j < length cells → Before (way S cells i) (way S cells j)
    rising {cells} good fresh i j h l = go (before_total (way S cells i) (way S cells j))
      where
        g : Good S k In size x₀ j (at S cells j) (way S cells j)
        g = good j l

        no : S.seen (take j cells) (S.item (at S cells j)) ≡ true → ⊥
        no t = both_ways _ (fresh j l).unseen t

        own : S.seen (take j cells) (S.item (at S cells i)) ≡ true
        own = seen_take cells (suc i) j (omega arith) (omega arith) _ (seen_own cells (λ m n. (good m n).within) i (omega arith))

        go : ((way S cells i ≡ way S cells j) ⊎ Before (way S cells i) (way S cells j)) ⊎ Before (way S cells j) (way S cells i) → Before (way S cells i) (way S cells j)
        go (inl (inl e)) = absurd (no (subst (λ (y : S.Item). S.seen (take j cells) y ≡ true) (sym (good i (omega arith)).leads ∙ ap (fold S.step x₀) e ∙ g.leads) own))
        go (inl (inr b)) = b
        go (inr b) = absurd (no (subst (λ (y : S.Item). S.seen (take j cells) y ≡ true) g.leads (seen_take cells i j (omega arith) (omega arith) _ ((fresh i (omega arith)).passed (way S cells j) g.over b))))

    -- of the cells that were noted, and of the word
    no_word : (r : Searched S.Cell) → r.word ≡ None → (h : ℕ) → Inv S k In size x₀ h r.noted → length r.noted ≤ h → Come r
    no_word r e h v l = record {
      good = v.sound.good;
      fresh = v.sound.fresh;
      room = v.sound.few;
      closed = λ _. record { sound = v.sound; taken = λ j a m n b. v.taken j a (omega arith) n b };
      ended = λ w f. absurd (none-some _ (sym e ∙ f));
    }

    one_word : (s : Progress S.Cell) → Stopped s → Come (searched S s)
    one_word s t = record {
      good = sound.good;
      fresh = sound.fresh;
      room = sound.few;
      closed = λ e. absurd (none-some _ (sym e ∙ found));
      ended = λ w e. subst (λ (v : List ℕ). Ended s.noted v) (same_Some _ _ (sym found ∙ e)) ended;
    }
      where
        sound : Sound S k In size x₀ s.noted
        sound = t.row.inv.sound

        g : Good S k In size x₀ t.i (at S s.noted t.i) (way S s.noted t.i)
        g = sound.good t.i t.row.within

        word : List ℕ
        word = way S s.noted t.i ++ (t.a ∷ [])

        found : (searched S s).word ≡ Some word
        found = ap (option_map (λ (e : ℕ × ℕ). way S s.noted e.0 ++ (e.1 ∷ []))) t.ended

        leads : fold S.step x₀ word ≡ S.step (S.item (at S s.noted t.i)) t.a
        leads = fold-append S.step x₀ (way S s.noted t.i) (t.a ∷ []) ∙ ap (λ x. S.step x t.a) g.leads

        ended : Ended s.noted word
        ended = record {
          ends = record { over = over_end k (way S s.noted t.i) t.a g.over t.below; ends = rw leads t.ends };
          earlier = t.row.earlier;
          unseen = rw leads t.unseen;
          short = omega (arith, length_end (way S s.noted t.i) t.a, g.low, t.row.within);
        }

    at_once : S.seen [] x₀ ≡ false → S.ends x₀ ≡ true → Come (record { noted = []; word = Some [] })
    at_once f e = record {
      good = λ j h. absurd (omega arith);
      fresh = λ j h. absurd (omega arith);
      room = omega arith;
      closed = λ n. absurd (none-some _ (sym n));
      ended = λ w o. subst (λ (v : List ℕ). Ended [] v) (same_Some _ _ o)
          record { ends = record { over = tt; ends = e }; earlier = λ v p b. absurd (before_none v b); unseen = f; short = omega arith };
    }

    pub come : (n : ℕ) → size [] ≤ n → Come (explore S k n x₀)
    come n room = go (cases_Bool (S.seen [] x₀)) (cases_Bool (S.ends x₀))
      where
        nothing : S.seen [] x₀ ≡ true → Inv S k In size x₀ 0 []
        nothing e = record { sound = record { good = λ j h. absurd (omega arith); fresh = λ j h. absurd (omega arith); few = omega arith; holds = e }; taken = λ j a h. absurd (omega arith) }

        search : State (Inv S k In size x₀ n) (taken S k (begun S x₀) n) → Come (searched S (taken S k (begun S x₀) n))
        search (inl g) = no_word _ (ap (option_map (λ (e : ℕ × ℕ). way S (taken S k (begun S x₀) n).noted e.0 ++ (e.1 ∷ []))) g.unended) n g.inv (omega (arith, g.inv.sound.few))
        search (inr t) = one_word _ t

        go : (S.seen [] x₀ ≡ true) ⊎ (S.seen [] x₀ ≡ false) → (S.ends x₀ ≡ true) ⊎ (S.ends x₀ ≡ false) → Come (explore S k n x₀)
        go (inl t) e = rw t (no_word (record { noted = []; word = None }) refl 0 (nothing t) (omega arith))
        go (inr f) (inl e) = rw (f, e) (at_once f e)
        go (inr f) (inr e) = rw (f, e) (search (taken_all (begun S x₀) n (first f e)))

    -- a word is the first that leads to an unseen item, if those before it lead to what was seen
    first_unseen : {cells : List S.Cell} {w : List ℕ} → Passed S k In size x₀ cells w → Over k w → S.seen cells (fold S.step x₀ w) ≡ false → First (Unseen S k x₀ cells) w
    first_unseen {cells} {w} p o f = (record { over = o; unseen = f }, (λ v u. go v u (before_total w v)))
      where
        go : (v : List ℕ) → Unseen S k x₀ cells v → ((w ≡ v) ⊎ Before w v) ⊎ Before v w → (w ≡ v) ⊎ Before w v
        go v u (inl h) = h
        go v u (inr b) = absurd (both_ways _ u.unseen (p v u.over b))

    -- and if it ends the search and no noted item does, it is the first that does
    first_ends : {cells : List S.Cell} {w : List ℕ} → Each S (Good S k In size x₀) cells → Ended cells w → First (Ends S k x₀) w
    first_ends {cells} {w} g e = (e.ends, (λ v o. go v o (before_total w v)))
      where
        go : (v : List ℕ) → Ends S k x₀ v → ((w ≡ v) ⊎ Before w v) ⊎ Before v w → (w ≡ v) ⊎ Before w v
        go v o (inl h) = h
        go v o (inr b) = absurd (both_ways _ (goes g v o.over (e.earlier v o.over b)) o.ends)

    pub explored : (n : ℕ) → size [] ≤ n → Explored S k n x₀ (explore S k n x₀)
    explored n room = record {
      few = omega (arith, c.room);
      next = λ i h. first_unseen (c.fresh i h).passed (c.good i h).over (rw (c.good i h).leads (c.fresh i h).unseen);
      leads = λ i h. (c.good i h).leads;
      goes_on = λ i h. (c.good i h).goes;
      begins = λ h. (c.good 0 h).begins refl;
      back = λ i h l. (c.good i l).back h;
      rising = rising c.good c.fresh;
      all_seen = λ e w o. both_ways _ o.unseen (all_seen (c.closed e) w o.over);
      none = λ e w o. both_ways _ (goes c.good w o.over (all_seen (c.closed e) w o.over)) o.ends;
      last = λ w e. first_unseen (c.ended w e).earlier (c.ended w e).ends.over (c.ended w e).unseen;
      first = λ w e. first_ends c.good (c.ended w e);
      short = λ w e. (c.ended w e).short;
    }
      where
        c : Come (explore S k n x₀)
        c = come n room
