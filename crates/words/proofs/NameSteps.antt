-- A name is text: its bytes are ASCII.
use Rattle.std.proofs.Common.{◌≡◌, ℕ, ◌<◌, true, List, Result, MatchResult, Ok, Err, refl, arith}
use Rattle.std.specs.Str.{IsUtf8}
use Rattle.std.specs.Result.{IsOk}
use Rattle.std.proofs.lemmas.Bool.{and_parts}
use Rattle.std.proofs.lemmas.Bool.Decides.{nat_tests}
use Rattle.std.proofs.lemmas.List.Elements.{All-weaker}
use Rattle.std.proofs.lemmas.List.Sums.{AllPass-from_list_all}
use Rattle.std.proofs.lemmas.Str.{IsUtf8-from_ascii}
use Rattle.std.proofs.lemmas.Str.Ascii.{IsAscii-from_all}
use Rattle.words.specs.Names.{name_byte, is_name}

name_byte_ascii : (b : ℕ) → name_byte b ≡ true → b < 128
name_byte_ascii b h = grind (arith, nat_tests)

pub IsUtf8-name : (w : List ℕ) → is_name w ≡ true → IsUtf8 w
IsUtf8-name w h = let a = AllPass-from_list_all name_byte w (and_parts _ _ h).1 in IsUtf8-from_ascii w (IsAscii-from_all w (All-weaker _ _ name_byte_ascii w a))

-- text that is read as such is not refused
pub not_refused : {A E U : Type 0} (P : A → Type 0) (Q : E → Type 0) (r : Result A E) → U → MatchResult r P (λ e. (U → ⊥) × Q e) → IsOk r
not_refused P Q (Ok x) u m = refl
not_refused P Q (Err x) u m = absurd (m.0 u)
