-- Reading a file that may be missing.
--   Allowed   an answer to what reading a file has given, where a missing file is no error: what was read, none if the file is missing, and any other error as it is
use Rattle.std.specs.Prelude.{◌≡◌, ◌≢◌, ◌⊎◌, Option, Some, None, Ok, Err, Result}
use Rattle.std.specs.declared.io.Error.{Error}
use Rattle.std.specs.IoError.{error_kind}
use Rattle.std.specs.declared.io.ErrorKind.TheVariants.{NotFound}

abbrev pub Allowed : {T : Type 0} → Result T Error → Result (Option T) Error → Type 0
Allowed (Ok x) answer = answer ≡ Ok (Some x)
Allowed (Err e) answer = ((error_kind e ≡ NotFound) × (answer ≡ Ok None)) ⊎ ((error_kind e ≢ NotFound) × (answer ≡ Err e))
