-- The lines that were read so far, and what reading to the end gives.
use Rattle.std.proofs.Common.{◌≡◌, ℕ, ◌+◌, ◌-◌, ◌<◌, ◌≤◌, List, [], ◌∷◌, ◌++◌, length, take, drop, Some, None, Option, sym, refl, ap, ◌∙◌, subst, inl, inr, append_assoc, append-nil, arith}
use Rattle.std.proofs.Math.Seq.{take-add}
use Rattle.std.proofs.lemmas.List.{length-drop, length-take-le, take_all, take-append-drop}
use Rattle.automaton.specs.declared.fault.Fault.{Fault}
use Rattle.catalogue.specs.Entries.{LotAt, Refused, bad_line, longest, told}
use Rattle.catalogue.specs.Lines.{LineOf, Lines, LotValue}
use Rattle.catalogue.specs.Listing.{Ended, Listed, Reading, Reads, Runs}
use Rattle.catalogue.proofs.Unique.{only_reading}

lines_more : (t : List ℕ) (lots : List LotValue) (lot : LotValue) (l ds : List ℕ) → Lines t lots → LineOf lot l ds → Lines (t ++ l) (lots ++ lot ∷ [])
lines_more t [] lot l ds e h = (l, ds, [], h, ap (λ (x : List ℕ). x ++ l) e ∙ sym (append-nil l), refl)
lines_more t (x ∷ lots) lot l ds (k, es, rest, g, e, more) h = (k, es, rest ++ l, g, ap (λ (y : List ℕ). y ++ l) e ∙ append_assoc k rest l, lines_more rest lots lot l ds more h)

pub lines_next : (text : List ℕ) (at : ℕ) (lots : List LotValue) (lot : LotValue) (next : ℕ) (ds : List ℕ) → Lines (take at text) lots → LotAt text at lot next ds → Lines (take next text) (lots ++ lot ∷ [])
lines_next text at lots lot next ds h l =
    let seam : at + (next - at) ≡ next = omega (arith, l.ends) in
    let whole : take at text ++ take (next - at) (drop at text) ≡ take next text = sym (take-add at (next - at) text) ∙ ap (λ (n : ℕ). take n text) seam in
    subst (λ (x : List ℕ). Lines x (lots ++ lot ∷ [])) whole (lines_more (take at text) lots lot (take (next - at) (drop at text)) ds h l.line)

-- a reading of a text that is not too long is the promised one
listed_reading : (text : List ℕ) (lots : List LotValue) (fault : Option Fault) → length text ≤ longest → Reading text lots fault → Listed text lots fault
listed_reading text lots fault few reading = record {
  read = λ _. reading;
  only = λ _ others end other. only_reading text lots others fault end reading other;
  long = λ l. absurd (omega arith);
  whole = λ _ all lines. only_reading text lots all fault None reading (text, [], sym (append-nil text), lines, refl);
}

-- the end was reached
pub listed_whole : (text : List ℕ) (at : ℕ) (lots : List LotValue) → Lines (take at text) lots → length text ≤ longest → at ≡ length text → Listed text lots None
listed_whole text at lots h few e =
    let all : take at text ≡ text = take_all at text (omega arith) in
    listed_reading text lots None few (text, [], sym (append-nil text), subst (λ (x : List ℕ). Lines x lots) all h, refl)

-- a line was refused
pub listed_refused : (text : List ℕ) (at : ℕ) (lots : List LotValue) (f : Fault) → at ≤ length text → Lines (take at text) lots → (longest < length text → lots ≡ []) → Refused text at f → Listed text lots (Some f)
listed_refused text at lots f within h none (inl r) = record {
  read = λ few. absurd (omega (arith, r.0));
  only = λ few others end other. absurd (omega (arith, r.0));
  long = λ l. (none l, ap Some r.1);
  whole = λ few all lines. absurd (omega (arith, r.0));
}
listed_refused text at lots f within h none (inr (i, r)) =
    let n : length (take at text) ≡ at = length-take-le at text within in
    let ended : Ended (drop at text) (length (take at text)) (Some f) =
    (i, record { some = omega (arith, r.unended, length-drop at text); stuck = r.stuck; fault = r.fault ∙ ap (λ (k : ℕ). bad_line (k + i)) (sym n) }) in
    listed_reading text lots (Some f) r.few (take at text, drop at text, sym (take-append-drop at text), h, ended)

-- whoever calls the reader to the end is handed the same
reads_on : (text : List ℕ) (more : List LotValue) (fault : Option Fault) (at : ℕ) (done : List LotValue) → at ≤ length text → Lines (take at text) done → (longest < length text → done ≡ [])
    → Reads text at more fault → Listed text (done ++ more) fault
reads_on text [] None at done h l none (next, e) = subst (λ (x : List LotValue). Listed text x None) (sym (append-nil done)) (listed_whole text at done l e.0 e.1.0)
reads_on text [] (Some f) at done h l none (next, e) = subst (λ (x : List LotValue). Listed text x (Some f)) (sym (append-nil done)) (listed_refused text at done f h l none e.0)
reads_on text (lot ∷ more) fault at done h l none (x, next, same, e, rest) =
    subst (λ (y : List LotValue). Listed text y fault) (append_assoc done (told x ∷ []) more ∙ ap (λ (y : LotValue). done ++ y ∷ more) same)
    (reads_on text more fault next (done ++ told x ∷ []) e.1.1.within (lines_next text at done (told x) next e.1.0 l e.1.1) (λ long. absurd (omega (arith, e.0))) rest)

pub runs : (text : List ℕ) → Runs text
runs text lots fault reads = reads_on text lots fault 0 [] (omega arith) refl (λ _. refl) reads
