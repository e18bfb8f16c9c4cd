-- A line that was read at a place of a text.
use Rattle.std.proofs.Common.{◌≡◌, ℕ, ◌+◌, ◌-◌, ◌≤◌, List, length, take, drop, ap, ◌∙◌, subst, arith}
use Rattle.std.proofs.lemmas.List.{drop-drop, length-drop}
use Rattle.catalogue.specs.Entries.{LotAt}
use Rattle.catalogue.specs.Lines.{LineOf, LotValue}

pub placed : (text : List ℕ) (at len : ℕ) (lot : LotValue) (digits : List ℕ) → at ≤ length text → LotAt (drop at text) 0 lot len digits → LotAt text at lot (at + len) digits
placed text at len lot digits within l =
    let same : len - 0 ≡ at + len - at = omega arith in
    let place : at + (0 + 5 + length digits) ≡ at + 5 + length digits = omega arith in
    record {
      line = subst (λ (n : ℕ). LineOf lot (take n (drop at text)) digits) same l.line;
      mark = l.mark ∙ ap (take (length lot.mark)) (drop-drop (0 + 5 + length digits) at text ∙ ap (λ (n : ℕ). drop n text) place);
      ends = omega (arith, l.ends);
      within = omega (arith, l.within, length-drop at text);
    }
