-- What the search for a kept state gives, and that this is the first kept word.
use Rattle.std.proofs.Common.{◌≡◌, ℕ, ◌<◌, true, false, List, [], length, length-append, take, drop, Option, None, Some, refl, sym, ap, ap₂, ◌∙◌, arith}
use Rattle.std.specs.Prelude.{IfSome, option_map, unwrap_or}
use Rattle.std.proofs.Math.Path.{subst⁻¹}
use Rattle.std.proofs.Math.Seq.{take-append_seam}
use Rattle.std.proofs.lemmas.Option.{none-some}
use Rattle.automaton.specs.Automata.{Automaton, Lawful}
use Rattle.automaton.specs.Languages.{Keeps}
use Rattle.explore.specs.declared.step_cell.StepCell.{StepCell}
use Rattle.explore.specs.Order.{First}
use Rattle.explore.specs.Search.{Searched, searched}
use Rattle.explore.specs.States.{EndsAt, Sought}
use Rattle.explore.specs.Written.{over}
use Rattle.explore.proofs.Order.{first_short}
use Rattle.explore.proofs.States.{states_law}
use Rattle.explore.proofs.Tracked.{Tracked, tracked}
use Rattle.search.specs.FirstKept.{Right, first_kept, found, handed}
use Rattle.search.specs.declared.first_kept.FirstKept.{FirstKept}
use Rattle.search.specs.Hunts.{hunted, kept_states, word_to}

module _ (m : Automaton) where
  -- a kept start ends the search at once,
  pub found_kept : m.kept m.start ≡ true → found m ≡ record { noted = []; word = Some [] }
  found_kept e = rw e refl

  -- and from any other it goes on,
  pub found_further : m.kept m.start ≡ false → found m ≡ searched (kept_states m) (hunted m)
  found_further e = rw e refl

  -- to end at a cell that is noted, if it does
  pub ended_there : IfSome (hunted m).ended (λ e. e.0 < length (hunted m).noted)
  ended_there = go (hunted m).ended refl
    where
      track : Tracked (kept_states m) m.start m.letters (hunted m)
      track = tracked (kept_states m) m.start m.letters record { item_noted = λ x i a. refl; origin_noted = λ x i a. refl; letter_noted = λ x i a. refl } m.count

      go : (o : Option (ℕ × ℕ)) → (hunted m).ended ≡ o → IfSome o (λ e. e.0 < length (hunted m).noted)
      go None e = tt
      go (Some (i, a)) e = (track.ended i a e).0

  -- what the cells hold then
  pub lent : (cells new : List StepCell) (n : ℕ) → new ≡ over (hunted m).noted cells → n ≡ length (hunted m).noted → take n new ≡ (hunted m).noted
  lent cells new n is many = ap₂ take many is ∙ take-append_seam (hunted m).noted (drop (length (hunted m).noted) cells)

  -- and what is answered
  pub answered_further : m.kept m.start ≡ false → (long : Option ℕ) (n : ℕ) (cells : List StepCell) (ended : Option (ℕ × ℕ)) → cells ≡ (hunted m).noted → n ≡ length (hunted m).noted →
      ended ≡ (hunted m).ended → long ≡ option_map length (word_to cells ended) → record { length = long; noted = n } ≡ first_kept m
  answered_further e long n cells ended noted many is told = rw (found_further e, told, noted, many, is) refl

-- A word that was written is handed over.
pub handed_over : (o : Option (List ℕ)) (buffer : List ℕ) → handed (option_map length o) (over (unwrap_or o []) buffer) ≡ o
handed_over None buffer = refl
handed_over (Some w) buffer = ap Some (take-append_seam w (drop (length w) buffer))

module _ (m : Automaton) (l : Lawful m) where
  abbrev r : Searched StepCell
  r = found m

  s : Sought m m.kept m.start (found m)
  s = states_law m l m.kept m.start l.begins

  to : (w : List ℕ) → EndsAt m m.kept m.start w → Keeps m w
  to w e = record { over = e.over; kept = e.ended }

  from : (w : List ℕ) → Keeps m w → EndsAt m m.kept m.start w
  from w k = record { over = k.over; ended = k.kept }

  -- the word that is found is the first kept one, and if none is found, none is kept
  pub found_first : (w : List ℕ) → (found m).word ≡ Some w → First (Keeps m) w
  found_first w e = let f = s.first w e in (to w f.0, (λ v k. f.1 v (from v k)))

  pub found_none : (found m).word ≡ None → (w : List ℕ) → Keeps m w → ⊥
  found_none e w k = s.none e w (from w k)

  none_found : ((w : List ℕ) → Keeps m w → ⊥) → (o : Option (List ℕ)) → (found m).word ≡ o → option_map length o ≡ None
  none_found h None e = refl
  none_found h (Some w) e = absurd (h w (found_first w e).0)

  none_long : (o : Option (List ℕ)) → option_map length o ≡ None → o ≡ None
  none_long None e = refl
  none_long (Some w) e = absurd (none-some _ (sym e))

  pub is_first : (a : FirstKept) (cells new : List StepCell) (buffer word : List ℕ) → a ≡ first_kept m → new ≡ over (found m).noted cells → word ≡ over (unwrap_or (found m).word []) buffer →
      Right m a new word
  is_first a cells new buffer word is noted written = record {
    nothing = ((λ e. found_none (none_long _ (sym long ∙ e))), (λ h. long ∙ none_found h _ refl));
    first = λ w e. found_first w (sym hands ∙ e);
    shortest = λ w e. first_short (Keeps m) w (found_first w (sym hands ∙ e));
    long = λ w e. long ∙ ap (option_map length) (sym hands ∙ e);
    many = omega (arith, ap (λ (b : FirstKept). b.noted) is, ap length noted, length-append (found m).noted (drop (length (found m).noted) cells));
    sought = subst⁻¹ (λ (x : Searched StepCell). Sought m m.kept m.start x) (ap₂ (λ (c : List StepCell) (w : Option (List ℕ)). record { noted = c; word = w }) taken hands) s;
  }
    where
      long : a.length ≡ option_map length (found m).word
      long = ap (λ (b : FirstKept). b.length) is

      hands : handed a.length word ≡ (found m).word
      hands = ap₂ handed long written ∙ handed_over (found m).word buffer

      taken : take a.noted new ≡ (found m).noted
      taken = ap₂ take (ap (λ (b : FirstKept). b.noted) is) noted ∙ take-append_seam (found m).noted (drop (length (found m).noted) cells)
