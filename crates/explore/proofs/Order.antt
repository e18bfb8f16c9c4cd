-- The order of words, and words with a last letter.
use Rattle.std.proofs.Common.{◌≡◌, ℕ, suc, ◌<◌, ◌≤◌, ◌⊎◌, List, [], ◌∷◌, ◌++◌, length, fold, refl, sym, ap, ◌∙◌, inl, inr, arith}
use Rattle.std.proofs.Math.Nat.{eq-or-lt_of_le}
use Rattle.std.proofs.lemmas.Bool.{cases_eq, cases_lt}
use Rattle.automaton.specs.Words.{Over}
use Rattle.explore.specs.Order.{Before, First, Lower, OrderLaw}
use Rattle.explore.proofs.Trails.{length_end}

pub over_end : (k : ℕ) (w : List ℕ) (a : ℕ) → Over k w → a < k → Over k (w ++ (a ∷ []))
over_end k [] a h l = (l, tt)
over_end k (b ∷ w) a h l = (h.0, over_end k w a h.1 l)

-- what every step keeps, every word keeps
pub fold_keeps : {X : Type 0} (step : X → ℕ → X) (P : X → Type 0) (k : ℕ) → ((x : X) (a : ℕ) → a < k → P x → P (step x a)) → (w : List ℕ) → Over k w → (x : X) → P x → P (fold step x w)
fold_keeps step P k f [] h x p = p
fold_keeps step P k f (a ∷ w) h x p = fold_keeps step P k f w h.1 (step x a) (f x a h.0 p)

-- a word is empty or has a last letter
pub last : (w : List ℕ) → (w ≡ []) ⊎ ((u : List ℕ) × (b : ℕ) × (w ≡ u ++ (b ∷ [])))
last [] = inl refl
last (a ∷ w) = go (last w)
  where
    go : (w ≡ []) ⊎ ((u : List ℕ) × (b : ℕ) × (w ≡ u ++ (b ∷ []))) → (a ∷ w ≡ []) ⊎ ((u : List ℕ) × (b : ℕ) × (a ∷ w ≡ u ++ (b ∷ [])))
    go (inl e) = inr ([], a, ap (λ v. a ∷ v) e)
    go (inr r) = inr (a ∷ r.0, r.1, ap (λ v. a ∷ v) r.2)

pub over_last : (k : ℕ) (u : List ℕ) (b : ℕ) → Over k (u ++ (b ∷ [])) → Over k u × (b < k)
over_last k [] b h = (tt, h.0)
over_last k (a ∷ u) b h = let r = over_last k u b h.1 in ((h.0, r.0), r.1)

-- what is lower than a word with the last letter 0 is so before that letter
lower_zero : (u t : List ℕ) (b : ℕ) → length u ≡ length t → Lower (u ++ (b ∷ [])) (t ++ (0 ∷ [])) → Lower u t
lower_zero [] [] b e (inl h) = absurd (omega arith)
lower_zero [] [] b e (inr h) = absurd h.1
lower_zero [] (d ∷ t) b e h = absurd (omega arith)
lower_zero (c ∷ u) [] b e h = absurd (omega arith)
lower_zero (c ∷ u) (d ∷ t) b e (inl h) = inl h
lower_zero (c ∷ u) (d ∷ t) b e (inr h) = inr (h.0, lower_zero u t b (omega arith) h.1)

pub before_zero : (u t : List ℕ) (b : ℕ) → Before (u ++ (b ∷ [])) (t ++ (0 ∷ [])) → Before u t
before_zero u t b (inl h) = inl (omega (arith, h, length_end u b, length_end t 0))
before_zero u t b (inr h) =
    let e : length u ≡ length t = omega (arith, h.0, length_end u b, length_end t 0) in
    inr (e, lower_zero u t b e h.1)

-- between a word and the word with the next last letter there is none
lower_suc : (w t : List ℕ) (a : ℕ) → length w ≡ suc (length t) → Lower w (t ++ (suc a ∷ [])) → (w ≡ t ++ (a ∷ [])) ⊎ Lower w (t ++ (a ∷ []))
lower_suc [] t a e h = absurd (omega arith)
lower_suc (c ∷ []) [] a e (inl h) = go (eq-or-lt_of_le {n = c} {m = a} (omega arith))
  where
    go : (c ≡ a) ⊎ (c < a) → (c ∷ [] ≡ a ∷ []) ⊎ Lower (c ∷ []) (a ∷ [])
    go (inl k) = inl (ap (λ b. b ∷ []) k)
    go (inr k) = inr (inl k)
lower_suc (c ∷ []) [] a e (inr h) = absurd h.1
lower_suc (c ∷ d ∷ w) [] a e h = absurd (omega arith)
lower_suc (c ∷ w) (d ∷ t) a e (inl h) = inr (inl h)
lower_suc (c ∷ w) (d ∷ t) a e (inr h) = go (lower_suc w t a (omega arith) h.1)
  where
    go : (w ≡ t ++ (a ∷ [])) ⊎ Lower w (t ++ (a ∷ [])) → (c ∷ w ≡ d ∷ (t ++ (a ∷ []))) ⊎ Lower (c ∷ w) (d ∷ (t ++ (a ∷ [])))
    go (inl k) = inl (rw (h.0, k) refl)
    go (inr k) = inr (inr (h.0, k))

pub before_suc : (w t : List ℕ) (a : ℕ) → Before w (t ++ (suc a ∷ [])) → (w ≡ t ++ (a ∷ [])) ⊎ Before w (t ++ (a ∷ []))
before_suc w t a (inl h) = inr (inl (omega (arith, h, length_end t a, length_end t (suc a))))
before_suc w t a (inr h) = go (lower_suc w t a (omega (arith, h.0, length_end t (suc a))) h.1)
  where
    go : (w ≡ t ++ (a ∷ [])) ⊎ Lower w (t ++ (a ∷ [])) → (w ≡ t ++ (a ∷ [])) ⊎ Before w (t ++ (a ∷ []))
    go (inl k) = inl k
    go (inr k) = inr (inr (omega (arith, h.0, length_end t a, length_end t (suc a)), k))

-- of two words one comes before the other, or they are one
lower_total : (w v : List ℕ) → length w ≡ length v → (w ≡ v) ⊎ (Lower w v ⊎ Lower v w)
lower_total [] [] e = inl refl
lower_total [] (b ∷ v) e = absurd (omega arith)
lower_total (a ∷ w) [] e = absurd (omega arith)
lower_total (a ∷ w) (b ∷ v) e = go (cases_eq a b) (cases_lt a b) (lower_total w v (omega arith))
  where
    go : (a ≡ b) ⊎ (a ≡ b → ⊥) → (a < b) ⊎ (b ≤ a) → (w ≡ v) ⊎ (Lower w v ⊎ Lower v w) → (a ∷ w ≡ b ∷ v) ⊎ (Lower (a ∷ w) (b ∷ v) ⊎ Lower (b ∷ v) (a ∷ w))
    go (inl k) l (inl m) = inl (rw (k, m) refl)
    go (inl k) l (inr (inl m)) = inr (inl (inr (k, m)))
    go (inl k) l (inr (inr m)) = inr (inr (inr (sym k, m)))
    go (inr k) (inl l) m = inr (inl (inl l))
    go (inr k) (inr l) m = inr (inr (inl (omega (arith, k))))

pub before_total : (w v : List ℕ) → ((w ≡ v) ⊎ Before w v) ⊎ Before v w
before_total w v = go (cases_lt (length w) (length v)) (cases_lt (length v) (length w))
  where
    same : (length w ≡ length v) → (w ≡ v) ⊎ (Lower w v ⊎ Lower v w) → ((w ≡ v) ⊎ Before w v) ⊎ Before v w
    same e (inl k) = inl (inl k)
    same e (inr (inl k)) = inl (inr (inr (e, k)))
    same e (inr (inr k)) = inr (inr (sym e, k))

    go : (length w < length v) ⊎ (length v ≤ length w) → (length v < length w) ⊎ (length w ≤ length v) → ((w ≡ v) ⊎ Before w v) ⊎ Before v w
    go (inl h) k = inl (inr (inl h))
    go (inr h) (inl k) = inr (inl k)
    go (inr h) (inr k) = same (omega arith) (lower_total w v (omega arith))

-- what comes before a word is no longer than it
before_short : (w v : List ℕ) → Before w v → length w ≤ length v
before_short w v (inl h) = omega arith
before_short w v (inr h) = omega (arith, h.0)

-- no word comes before the empty one
pub before_none : (w : List ℕ) → Before w [] → ⊥
before_none [] (inl h) = omega arith
before_none [] (inr h) = h.1
before_none (a ∷ w) (inl h) = omega arith
before_none (a ∷ w) (inr h) = h.1

lower_one_way : (w v : List ℕ) → Lower w v → Lower v w → ⊥
lower_one_way [] v h k = h
lower_one_way (a ∷ w) [] h k = h
lower_one_way (a ∷ w) (b ∷ v) (inl h) (inl k) = omega arith
lower_one_way (a ∷ w) (b ∷ v) (inl h) (inr k) = omega (arith, k.0)
lower_one_way (a ∷ w) (b ∷ v) (inr h) (inl k) = omega (arith, h.0)
lower_one_way (a ∷ w) (b ∷ v) (inr h) (inr k) = lower_one_way w v h.1 k.1

pub before_one_way : (w v : List ℕ) → Before w v → Before v w → ⊥
before_one_way w v (inl h) (inl k) = omega arith
before_one_way w v (inl h) (inr k) = omega (arith, k.0)
before_one_way w v (inr h) (inl k) = omega (arith, h.0)
before_one_way w v (inr h) (inr k) = lower_one_way w v h.1 k.1

lower_trans : (u v w : List ℕ) → Lower u v → Lower v w → Lower u w
lower_trans [] v w h k = h
lower_trans (a ∷ u) [] w h k = absurd h
lower_trans (a ∷ u) (b ∷ v) [] h k = absurd k
lower_trans (a ∷ u) (b ∷ v) (c ∷ w) (inl h) (inl k) = inl (omega arith)
lower_trans (a ∷ u) (b ∷ v) (c ∷ w) (inl h) (inr k) = inl (omega (arith, k.0))
lower_trans (a ∷ u) (b ∷ v) (c ∷ w) (inr h) (inl k) = inl (omega (arith, h.0))
lower_trans (a ∷ u) (b ∷ v) (c ∷ w) (inr h) (inr k) = inr (h.0 ∙ k.0, lower_trans u v w h.1 k.1)

pub before_trans : (u v w : List ℕ) → Before u v → Before v w → Before u w
before_trans u v w (inl h) (inl k) = inl (omega arith)
before_trans u v w (inl h) (inr k) = inl (omega (arith, k.0))
before_trans u v w (inr h) (inl k) = inl (omega (arith, h.0))
before_trans u v w (inr h) (inr k) = inr (h.0 ∙ k.0, lower_trans u v w h.1 k.1)

pub order_law : OrderLaw
order_law = record { shorter = before_short; one_way = before_one_way; chained = before_trans; total = before_total }

-- The first word with a property is no longer than any other that has it.
pub first_short : (P : List ℕ → Type 0) (w : List ℕ) → First P w → (v : List ℕ) → P v → length w ≤ length v
first_short P w f v p = go (f.1 v p)
  where
    go : (w ≡ v) ⊎ Before w v → length w ≤ length v
    go (inl e) = omega (arith, ap length e)
    go (inr b) = before_short w v b
