-- What a search comes to is settled by words.
use Rattle.std.proofs.Common.{◌≡◌, ℕ, zero, suc, ◌<◌, ◌≤◌, ◌⊎◌, List, [], ◌∷◌, ◌++◌, length, take, fold, get_or, Option, Some, None, refl, sym, subst, ap, ap₂, ◌∙◌, inl, inr, arith, le_antisymm}
use Rattle.std.proofs.Math.Seq.{get_or-append_seam, take-length, take-suc}
use Rattle.std.proofs.lemmas.Bool.{both_ways, cases_lt}
use Rattle.std.proofs.lemmas.List.{append_cancel_right}
use Rattle.explore.specs.Order.{Before, First}
use Rattle.explore.specs.Search.{Decided, Explored, Kind, Searched, Unseen, at, explore, way}
use Rattle.explore.proofs.Invariant.{LawfulKind}
use Rattle.explore.proofs.Noted.{way_front, way_step}
use Rattle.explore.proofs.Order.{before_one_way}
use Rattle.explore.proofs.Search.{explored}
use Rattle.explore.proofs.Trails.{length_end}

-- A property has one first word.
pub first_one : (P : List ℕ → Type 0) (w v : List ℕ) → First P w → First P v → w ≡ v
first_one P w v f g = go (f.1 v g.0) (g.1 w f.0)
  where
    go : (w ≡ v) ⊎ Before w v → (v ≡ w) ⊎ Before v w → w ≡ v
    go (inl e) h = e
    go (inr b) (inl e) = sym e
    go (inr b) (inr c) = absurd (before_one_way w v b c)

-- Equal words have equal last letters, and are equal before them.
same_ends : (u v : List ℕ) (a b : ℕ) → u ++ (a ∷ []) ≡ v ++ (b ∷ []) → (u ≡ v) × (a ≡ b)
same_ends u v a b e = (append_cancel_right u v (b ∷ []) (ap (λ x. u ++ (x ∷ [])) (sym last) ∙ e), last)
  where
    long : length u ≡ length v
    long = omega (arith, length_end u a, length_end v b, ap length e)

    last : a ≡ b
    last = sym (get_or-append_seam u a [] 0) ∙ ap (λ w. get_or w (length u) 0) e ∙ rw long (get_or-append_seam v b [] 0)

module _ (S : Kind) (k n : ℕ) (In : S.Item → Type 0) (size : List S.Cell → ℕ) (x : S.Item) (law : LawfulKind S k In size) where
  module _ (r s : Searched S.Cell) (e : Explored S k n x r) (f : Explored S k n x s) where
    -- where the cells before cell i are the same, cell i has the same trail,
    one_way : (i : ℕ) → i < length r.noted → i < length s.noted → take i r.noted ≡ take i s.noted → way S r.noted i ≡ way S s.noted i
    one_way i h l m = first_one (Unseen S k x (take i s.noted)) _ _ (subst (λ (cells : List S.Cell). First (Unseen S k x cells) (way S r.noted i)) m (e.next i h)) (f.next i l)

    -- the same origin and the same letter,
    one_origin : (i : ℕ) → 0 < i → (h : i < length r.noted) → (l : i < length s.noted) → take i r.noted ≡ take i s.noted →
        (S.origin (at S r.noted i) ≡ S.origin (at S s.noted i)) × (S.letter (at S r.noted i) ≡ S.letter (at S s.noted i))
    one_origin i z h l m = (go (cases_lt o p) (cases_lt p o), ends.1)
      where
        o : ℕ
        o = S.origin (at S r.noted i)

        p : ℕ
        p = S.origin (at S s.noted i)

        ends : (way S r.noted o ≡ way S s.noted p) × (S.letter (at S r.noted i) ≡ S.letter (at S s.noted i))
        ends = same_ends _ _ _ _ (sym (way_step S r.noted i z h (e.back i z h)) ∙ one_way i h l m ∙ way_step S s.noted i z l (f.back i z l))

        across : way S r.noted o ≡ way S s.noted o
        across = sym (way_front S r.noted i o (omega arith) (e.back i z h)) ∙ ap (λ (cells : List S.Cell). way S cells o) m ∙ way_front S s.noted i o (omega arith) (e.back i z h)

        apart : (a b : ℕ) → a < b → b < length s.noted → way S s.noted a ≡ way S s.noted b → ⊥
        apart a b h m t = let c = f.rising a b h m in before_one_way _ _ c (subst (λ (w : List ℕ). Before w (way S s.noted a)) t (subst (λ (w : List ℕ). Before (way S s.noted a) w) (sym t) c))

        go : (o < p) ⊎ (p ≤ o) → (p < o) ⊎ (o ≤ p) → o ≡ p
        go (inl b) c = absurd (apart o p b (omega (arith, f.back i z l)) (sym across ∙ ends.0))
        go (inr b) (inl c) = absurd (apart p o c (omega (arith, e.back i z h)) (sym ends.0 ∙ across))
        go (inr b) (inr c) = omega arith

    -- so it is the same cell
    one_cell : (i : ℕ) → i < length r.noted → i < length s.noted → take i r.noted ≡ take i s.noted → at S r.noted i ≡ at S s.noted i
    one_cell i h l m = sym (law.whole (at S r.noted i)) ∙ rw (item, (reached i h l m).0, (reached i h l m).1) (law.whole (at S s.noted i))
      where
        item : S.item (at S r.noted i) ≡ S.item (at S s.noted i)
        item = sym (e.leads i h) ∙ ap (fold S.step x) (one_way i h l m) ∙ f.leads i l

        reached : (i : ℕ) → i < length r.noted → i < length s.noted → take i r.noted ≡ take i s.noted →
            (S.origin (at S r.noted i) ≡ S.origin (at S s.noted i)) × (S.letter (at S r.noted i) ≡ S.letter (at S s.noted i))
        reached zero h l m = ((e.begins h).0 ∙ sym (f.begins l).0, (e.begins h).1 ∙ sym (f.begins l).1)
        reached (suc i) h l m = one_origin (suc i) (omega arith) h l m

    fronts : (i : ℕ) → i ≤ length r.noted → i ≤ length s.noted → take i r.noted ≡ take i s.noted
    fronts zero h l = refl
    fronts (suc i) h l =
        let m = fronts i (omega arith) (omega arith) in
        let o = one_cell i (omega arith) (omega arith) m in
        rw (take-suc r.noted i S.none (omega arith), take-suc s.noted i S.none (omega arith), m, o) refl

  -- what is explored has no fewer cells than anything else that is
  not_fewer : (r s : Searched S.Cell) → Explored S k n x r → Explored S k n x s → length r.noted < length s.noted → ⊥
  not_fewer r s e f h = go r.word refl
    where
      i : ℕ
      i = length r.noted

      front : r.noted ≡ take i s.noted
      front = sym (take-length r.noted) ∙ fronts r s e f i (omega arith) (omega arith)

      new : First (Unseen S k x r.noted) (way S s.noted i)
      new = subst (λ (cells : List S.Cell). First (Unseen S k x cells) (way S s.noted i)) (sym front) (f.next i h)

      go : (o : Option (List ℕ)) → r.word ≡ o → ⊥
      go None a = e.all_seen a (way S s.noted i) new.0
      go (Some w) a =
          let one : w ≡ way S s.noted i = first_one (Unseen S k x r.noted) _ _ (e.last w a) new in
          both_ways _ (f.goes_on i h) (ap S.ends (sym (f.leads i h) ∙ ap (fold S.step x) (sym one)) ∙ (e.first w a).0.ends)

  one_outcome : (r s : Searched S.Cell) → Explored S k n x r → Explored S k n x s → r ≡ s
  one_outcome r s e f = ap₂ (λ (cells : List S.Cell) (w : Option (List ℕ)). record { noted = cells; word = w }) cells (go r.word s.word refl refl)
    where
      not_above : (a b : ℕ) → (b < a → ⊥) → a ≤ b
      not_above a b h = omega (arith, h)

      long : length r.noted ≡ length s.noted
      long = le_antisymm (not_above _ _ (not_fewer s r f e)) (not_above _ _ (not_fewer r s e f))

      cells : r.noted ≡ s.noted
      cells = sym (take-length r.noted) ∙ fronts r s e f (length r.noted) (omega arith) (omega (arith, long)) ∙ rw long (take-length s.noted)

      there : (w : List ℕ) → Unseen S k x r.noted w → Unseen S k x s.noted w
      there w u = subst (λ (c : List S.Cell). Unseen S k x c w) cells u

      here : (w : List ℕ) → Unseen S k x s.noted w → Unseen S k x r.noted w
      here w u = subst (λ (c : List S.Cell). Unseen S k x c w) (sym cells) u

      go : (o t : Option (List ℕ)) → r.word ≡ o → s.word ≡ t → r.word ≡ s.word
      go None None a b = a ∙ sym b
      go None (Some w) a b = absurd (e.all_seen a w (here w (f.last w b).0))
      go (Some w) None a b = absurd (f.all_seen b w (there w (e.last w a).0))
      go (Some w) (Some v) a b = a ∙ ap Some (first_one (Unseen S k x s.noted) w v (subst (λ (c : List S.Cell). First (Unseen S k x c) w) cells (e.last w a)) (f.last v b)) ∙ sym b

  pub decided : In x → size [] ≤ n → Decided S k n x (explore S k n x)
  decided in₀ room = record { explored = e; only = λ s f. one_outcome s (explore S k n x) f e }
    where
      e : Explored S k n x (explore S k n x)
      e = explored S k In size x law in₀ n room
