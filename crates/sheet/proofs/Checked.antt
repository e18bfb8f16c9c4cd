-- What the check of a sheet tells.
use Rattle.std.proofs.Common.{◌≡◌, ◌↔◌, ℕ, List, Some, None, Ok, Err, Option, Result, ap, inl, inr, refl, sym, arith}
use Rattle.std.proofs.lemmas.Grind.{common_steps}
use Rattle.automaton.specs.declared.fault.Fault.{Fault}
use Rattle.std.specs.Option.{unwrap_or}
use Rattle.automaton.specs.Automata.{Automaton}
use Rattle.sheet.specs.Layout.{WellFormed, tabled}
use Rattle.sheet.specs.NfaLayout.{NfaWellFormed, pictured, setwise}
use Rattle.sheet.specs.NfaOpening.{nfa_fault, nfa_form}
use Rattle.sheet.specs.Forms.{Checked, Decodes, Undecoded, answered, out_of_memory}
use Rattle.sheet.specs.Opening.{fault_of, stray_fault, strayed, table_form}
use Rattle.sheet.specs.Subsets.{Subsets}
use Rattle.sheet.proofs.Drawings.{keeps_drawn}
use Rattle.sheet.proofs.Pictures.{setwise_subsets}
use Rattle.sheet.proofs.Strays.{closed_none, none_closed, some_stray}
use Rattle.sheet.proofs.SubsetRuns.{keeps_subsets}
use Rattle.sheet.proofs.Zeros.{clear_bits, clear_field}

-- a table sheet
module _ (bs : List ℕ) (r : Result (Unit {0}) Fault) (e : r ≡ answered (fault_of bs)) where
  accepted : (r ≡ Ok tt) ↔ WellFormed bs
  accepted = grind (arith, common_steps, none_closed, clear_bits, closed_none, clear_field)

  named : (p a : ℕ) → r ≡ Err (strayed p a) → stray_fault bs ≡ Some (strayed p a)
  named p a k = grind (arith, common_steps)

  pub table_checked : Checked table_form bs r
  table_checked = record {
    answer = e;
    accepted = accepted;
    keeps = λ k. keeps_drawn bs (accepted.0 k).closed;
    also = λ _ _ p a k. some_stray bs p a (named p a k);
  }

-- a table sheet that was decoded, and one that was not
module _ (bs : List ℕ) where
  pub decoded : (m : Automaton) → m ≡ tabled bs → fault_of bs ≡ None → Decodes table_form bs m
  decoded m is e =
      let t : Checked table_form bs (Ok tt) = table_checked bs (Ok tt) (sym (ap answered e)) in
      record { faultless = e; formed = t.accepted.0 refl; means = is; keeps = rw is (t.keeps refl) }

  -- no sheet is refused for want of memory
  no_want : fault_of bs ≡ Some out_of_memory → ⊥
  no_want e = grind (arith, common_steps)

  pub faulty : (f : Fault) → fault_of bs ≡ Some f → Undecoded table_form bs f
  faulty f e =
      let t : Checked table_form bs (Err f) = table_checked bs (Err f) (sym (ap answered e)) in
      record {
        answer = inl (ap answered e);
        formed = ((λ w. let k : Err f ≡ Ok tt = t.accepted.1 w in cc), (λ k. absurd (no_want (rw k at e))));
        also = λ rule. t.also rule (λ k. cc);
      }

  pub undecoded : (f : Fault) → f ≡ unwrap_or (fault_of bs) out_of_memory → Undecoded table_form bs f
  undecoded f e = go (fault_of bs) refl e
    where
      go : (o : Option Fault) → fault_of bs ≡ o → f ≡ unwrap_or o out_of_memory → Undecoded table_form bs f
      go (Some g) k h = faulty f (rw h k)
      go None k h =
          let t : Checked table_form bs (Ok tt) = table_checked bs (Ok tt) (sym (ap answered k)) in
          record { answer = inr (k, h); formed = ((λ _. h), (λ _. t.accepted.0 refl)); also = λ rule p a l. grind (arith, common_steps) }

-- the sheet of a nondeterministic automaton
module _ (bs : List ℕ) (r : Result (Unit {0}) Fault) (e : r ≡ answered (nfa_fault bs)) where
  nfa_accepted : (r ≡ Ok tt) ↔ NfaWellFormed bs
  nfa_accepted = grind (arith, common_steps, clear_bits, clear_field)

  subsets : r ≡ Ok tt → Subsets (pictured bs) (setwise bs)
  subsets k = setwise_subsets bs (nfa_accepted.0 k).headed

  pub nfa_checked : Checked nfa_form bs r
  nfa_checked = record {
    answer = e;
    accepted = nfa_accepted;
    keeps = λ k. keeps_subsets (pictured bs) (setwise bs) (subsets k);
    also = λ rule is k. rw (is k) (subsets k);
  }
