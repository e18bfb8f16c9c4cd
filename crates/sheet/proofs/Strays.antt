-- Next states that are not there: what a search for the first one finds.
use Rattle.std.proofs.Common.{◌≡◌, ℕ, ◌<◌, Bool, true, false, leb, List, is_none, is_some, Some, None, sym, arith}
use Rattle.std.proofs.lemmas.Bool.Decides.{nat_tests}
use Rattle.std.proofs.lemmas.Grind.{common_steps}
use Rattle.sheet.specs.Layout.{Closed, letter_count, next_in, state_count, stray_letter, stray_state}
use Rattle.sheet.specs.Opening.{Stray, stray_fault, strayed}
use Rattle.sheet.proofs.Firsts.{Found, first_some, none_below, none_from}

-- whether a next state is not there, and whether that is so under some letter
abbrev pub out : List ℕ → ℕ → ℕ → Bool
out bs p a = leb (state_count bs) (next_in bs p a)

abbrev open_row : List ℕ → ℕ → Bool
open_row bs p = is_some (stray_letter bs p)

module _ (bs : List ℕ) where
  -- there is none if all are below the number of states
  pub none_in_row : (p n : ℕ) → n ≡ state_count bs → ((a : ℕ) → a < letter_count bs → next_in bs p a < n) → None ≡ stray_letter bs p
  none_in_row p n e few = sym (none_from (out bs p) (letter_count bs) (λ a l. lt_leb (next_in bs p a) (state_count bs) (omega (arith, few a l, e))))
    where
      lt_leb : (x y : ℕ) → x < y → leb y x ≡ false
      lt_leb x y l = grind (arith, nat_tests)

  -- whether there is none in any row
  pub all_there : (n : ℕ) → n ≡ state_count bs → ((p : ℕ) → p < n → stray_letter bs p ≡ None) → true ≡ is_none (stray_state bs)
  all_there n e h = grind (arith, common_steps, none_from (open_row bs) (state_count bs))

  pub one_astray : (n p : ℕ) → n ≡ state_count bs → p < n → false ≡ is_none (stray_letter bs p) → false ≡ is_none (stray_state bs)
  one_astray n p e l h = grind (arith, common_steps, none_below (open_row bs) (state_count bs))

  pub none_closed : stray_fault bs ≡ None → Closed bs
  none_closed e p a hp ha = grind (arith, common_steps, none_below (open_row bs) (state_count bs), none_below (out bs p) (letter_count bs))

  pub closed_none : Closed bs → stray_fault bs ≡ None
  closed_none h = grind (arith, common_steps, none_from)

  -- what is named is the first stray next state
  pub some_stray : (p a : ℕ) → stray_fault bs ≡ Some (strayed p a) → Stray bs p a
  some_stray p a e =
      let s : Found (open_row bs) (state_count bs) p = grind (arith, common_steps, first_some (open_row bs) (state_count bs) p) in
      let l : Found (out bs p) (letter_count bs) a = grind (arith, common_steps, first_some (out bs p) (letter_count bs) a) in
      record {
        state = s.below;
        letter = l.below;
        out = grind (arith, common_steps);
        earlier = λ q b hq hb o. grind (arith, common_steps, s, l, none_below (out bs q) (letter_count bs));
      }
