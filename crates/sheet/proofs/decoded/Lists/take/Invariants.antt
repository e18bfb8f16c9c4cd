use Rattle.std.proofs.Common.{◌≡◌, ℕ, ◌<◌, List, Bool, None, vec_len}
use Rattle.sheet.specs.Layout.{stray_letter}
use Rattle.sheet.specs.Listed.{Listed}
use Rattle.sheet.proofs.decoded.Lists.take.Given as goal

pub record Taken (bytes : List ℕ) (states n : ℕ) (kept : List Bool) (next : List (List ℕ)) (kept_len next_len : ℕ) : Type 0 where
  pub kept_long : kept_len ≡ states
  pub next_long : next_len ≡ states
  pub listed : Listed bytes n kept next
  pub there : (p : ℕ) → p < n → stray_letter bytes p ≡ None

abbrev pub invariant-loop-state : goal.invariant-loop-state
invariant-loop-state l = Taken l.rows.bytes.now l.rows.size.states l.state l.self.kept.items l.self.next.items (vec_len l.self.kept) (vec_len l.self.next)
