-- Judging a text by the rule on a sheet that was opened.
use Rattle.std.proofs.Common.{◌≡◌, ℕ, Bool, List, Option, None, Some, Ok, Result, inl, inr, refl, sym, ap, ◌∙◌, subst}
use Rattle.automaton.specs.declared.fault.Fault.{Fault}
use Rattle.automaton.specs.Automata.{Automaton}
use Rattle.automaton.specs.Languages.{Judged, Unknown}
use Rattle.automaton.specs.Words.{Over, of_text}
use Rattle.capi.specs.Calls.{TextJudged}
use Rattle.sheet.specs.Forms.{Copied, Form, Opened, answered, held_after}

no_fault : (f : Option Fault) → answered f ≡ Ok tt → f ≡ None
no_fault None e = refl
no_fault (Some f) e = cc

module _ (form : Form) (sheet text old new : List ℕ) (m : Automaton) (o : Result (Unit {0}) Fault) (r : Result Bool Fault) (is : o ≡ Ok tt) (j : Judged m (of_text text) r) where
  opened_judged : Opened form sheet old new m o → TextJudged form sheet text r
  opened_judged opened =
      let none : form.fault sheet ≡ None = no_fault (form.fault sheet) (sym opened.answer ∙ is) in
      let means : m ≡ form.means sheet = opened.means ∙ ap form.means (opened.held ∙ ap (λ f. held_after f old sheet) none) in
      record {
        answer = inl (j.answer ∙ rw (none, means) refl);
        kept = λ e. (opened.accepted.0 is, (opened.keeps is (of_text text)).0 (j.keeps.0 e));
        dropped = λ e.
            let d = j.drops.0 e in
            (opened.accepted.0 is, subst (λ (z : Automaton). Over z.letters (of_text text)) means d.over, λ a. d.unkept ((opened.keeps is (of_text text)).1 a));
        unknown = λ h i e. subst (λ (z : Automaton). Unknown z (of_text text) i) means ((j.unknown i).0 e);
      }

  pub text_judged : Copied form sheet old new m o → TextJudged form sheet text r
  text_judged (inl opened) = opened_judged opened
  text_judged (inr (copied, means)) = cc (is, copied.answer)
