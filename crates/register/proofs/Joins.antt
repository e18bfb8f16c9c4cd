-- Joining two states more gives the smallest equivalence above: one that holds the old one and joins the two.
use Rattle.std.proofs.Common.{◌≡◌, ℕ, ◌<◌, Bool, true, false, ◌&&◌, ◌||◌, ◌⊎◌, refl, inl, inr, arith}
use Rattle.std.proofs.lemmas.Bool.Decides.{nat_tests}
use Rattle.std.proofs.lemmas.Bool.{and_from, and_parts, or_cases, or_left, or_right}
use Rattle.register.specs.Relations.{Agree, EquivalenceOn, JoinLaw, Joins, join}

-- How two states got joined: they were, or by way of x and y, in this order or the other.
pub data Route (J : ℕ → ℕ → Bool) (x y u v : ℕ) : Type 0 where
  before : Joins J u v → Route J x y u v
  over : Joins J u x → Joins J y v → Route J x y u v
  back : Joins J u y → Joins J x v → Route J x y u v

module _ (J : ℕ → ℕ → Bool) (x y u v : ℕ) where
  pub route : Joins (join J x y) u v → Route J x y u v
  route t = last (or_cases _ _ t)
    where
      first : (J u v ≡ true) ⊎ ((J u x && J y v) ≡ true) → Route J x y u v
      first (inl h) = before h
      first (inr h) = let p = and_parts _ _ h in over p.0 p.1

      last : ((J u v || (J u x && J y v)) ≡ true) ⊎ ((J u y && J x v) ≡ true) → Route J x y u v
      last (inl h) = first (or_cases _ _ h)
      last (inr h) = let p = and_parts _ _ h in back p.0 p.1

  pub routed : Route J x y u v → Joins (join J x y) u v
  routed (before h) = or_left _ _ (or_left _ _ h)
  routed (over h k) = or_left _ _ (or_right (J u v) _ (and_from _ _ h k))
  routed (back h k) = or_right (J u v || (J u x && J y v)) _ (and_from _ _ h k)

-- The order of x and y does not matter.
pub join_swapped : (J : ℕ → ℕ → Bool) (x y u v : ℕ) → join J x y u v ≡ join J y x u v
join_swapped J x y u v = turn (J u v) (J u x && J y v) (J u y && J x v)
  where
    turn : (a b c : Bool) → (a || b || c) ≡ (a || c || b)
    turn true b c = refl
    turn false b c = grind (arith, nat_tests)

-- What was joined stays joined.
pub join_holds : (J : ℕ → ℕ → Bool) (x y u v : ℕ) → Joins J u v → Joins (join J x y) u v
join_holds J x y u v h = routed J x y u v (before h)

-- Tests that agree agree after a join.
pub join_agrees : (n : ℕ) (J L : ℕ → ℕ → Bool) (x y : ℕ) → x < n → y < n → Agree n J L → Agree n (join J x y) (join L x y)
join_agrees n J L x y hx hy a u v hu hv =
    rw (a u v hu hv, a u x hu hx, a y v hy hv, a u y hu hy, a x v hx hv)

module _ (n : ℕ) (J : ℕ → ℕ → Bool) (e : EquivalenceOn n (Joins J)) (x y : ℕ) (hx : x < n) (hy : y < n) where
  pub join_joins : Joins (join J x y) x y
  join_joins = routed J x y x y (over (e.itself x hx) (e.itself y hy))

  pub join_equivalence : EquivalenceOn n (Joins (join J x y))
  join_equivalence = record {
    itself = λ u hu. routed J x y u u (before (e.itself u hu));
    turned = λ u v hu hv t. routed J x y v u (turn u v hu hv (route J x y u v t));
    chained = λ u v w hu hv hw s t. routed J x y u w (link u v w hu hv hw (route J x y u v s) (route J x y v w t));
  }
    where
      turn : (u v : ℕ) → u < n → v < n → Route J x y u v → Route J x y v u
      turn u v hu hv (before h) = before (e.turned u v hu hv h)
      turn u v hu hv (over h k) = back (e.turned y v hy hv k) (e.turned u x hu hx h)
      turn u v hu hv (back h k) = over (e.turned x v hx hv k) (e.turned u y hu hy h)

      link : (u v w : ℕ) → u < n → v < n → w < n → Route J x y u v → Route J x y v w → Route J x y u w
      link u v w hu hv hw (before h) (before k) = before (e.chained u v w hu hv hw h k)
      link u v w hu hv hw (before h) (over k l) = over (e.chained u v x hu hv hx h k) l
      link u v w hu hv hw (before h) (back k l) = back (e.chained u v y hu hv hy h k) l
      link u v w hu hv hw (over h k) (before l) = over h (e.chained y v w hy hv hw k l)
      link u v w hu hv hw (over h k) (over l m) =
          before (e.chained u x w hu hx hw h (e.chained x v w hx hv hw (e.turned v x hv hx l) (e.chained v y w hv hy hw (e.turned y v hy hv k) m)))
      link u v w hu hv hw (over h k) (back l m) = before (e.chained u x w hu hx hw h m)
      link u v w hu hv hw (back h k) (before l) = back h (e.chained x v w hx hv hw k l)
      link u v w hu hv hw (back h k) (over l m) = before (e.chained u y w hu hy hw h m)
      link u v w hu hv hw (back h k) (back l m) =
          before (e.chained u y w hu hy hw h (e.chained y v w hy hv hw (e.turned v y hv hy l) (e.chained v x w hv hx hw (e.turned x v hx hv k) m)))

-- Every equivalence that holds J and joins x and y holds whatever is joined now.
pub join_least : (n : ℕ) (J : ℕ → ℕ → Bool) (E : ℕ → ℕ → Type 0) → EquivalenceOn n E → ((u v : ℕ) → u < n → v < n → Joins J u v → E u v) →
    (x y : ℕ) → x < n → y < n → E x y → (u v : ℕ) → u < n → v < n → Joins (join J x y) u v → E u v
join_least n J E e holds x y hx hy exy u v hu hv t = go (route J x y u v t)
  where
    go : Route J x y u v → E u v
    go (before h) = holds u v hu hv h
    go (over h k) = e.chained u x v hu hx hv (holds u x hu hx h) (e.chained x y v hx hy hv exy (holds y v hy hv k))
    go (back h k) = e.chained u y v hu hy hv (holds u y hu hy h) (e.chained y x v hy hx hv (e.turned x y hx hy exy) (holds x v hx hv k))

pub join_law : JoinLaw
join_law n J e x y hx hy = record {
  equivalence = join_equivalence n J e x y hx hy;
  before = λ u v hu hv t. join_holds J x y u v t;
  pair = join_joins n J e x y hx hy;
  least = λ E f within t. join_least n J (Joins E) f within x y hx hy t;
}
