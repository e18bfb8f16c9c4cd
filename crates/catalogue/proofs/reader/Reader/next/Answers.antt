use Rattle.std.proofs.Common.{◌≡◌, ℕ, ◌+◌, List, drop, Ok, Err, refl, subst, inr, arith, rules}
use Rattle.std.proofs.lemmas.List.{take_rest}
use Rattle.catalogue.specs.Entries.{bad_line, told}
use Rattle.catalogue.specs.Lines.{Stuck}
use Rattle.catalogue.specs.Reading.{LineRead}
use Rattle.catalogue.proofs.Placed.{placed}
use Rattle.catalogue.proofs.reader.Reader.next.Goals as goal

pub returns-in_err-line-clause-entry : goal.returns-in_err-line-clause-entry
returns-in_err-line-clause-entry c =
    let text = c.args.self.now.text.now in
    let at = c.args.self.now.at in
    let read : LineRead (drop at text) c.read_line.result = subst (λ (t : List ℕ). LineRead t c.read_line.result) (take_rest text at) c.read_line.ensures in
    let refused : (i : ℕ) × Stuck (drop at text) i × (c.from_residual.result ≡ Err (bad_line (at + i))) = search rules in
    rw refused.2 (inr (refused.0, record { few = omega arith; unended = omega arith; stuck = refused.1; fault = refl }), refl)

pub returns-clause-entry : goal.returns-clause-entry
returns-clause-entry c =
    let text = c.args.self.now.text.now in
    let at = c.args.self.now.at in
    let read : LineRead (drop at text) c.read_line.result = subst (λ (t : List ℕ). LineRead t c.read_line.result) (take_rest text at) c.read_line.ensures in
    let is : c.read_line.result ≡ Ok c.in_ok-line.line = search rules in
    let found : LineRead (drop at text) (Ok c.in_ok-line.line) = rw is at read in
    (omega arith, (found.0, placed text at c.in_ok-line.line.len (told c.in_ok-line.line.lot) found.0 (omega arith) found.1))
