-- What holds of every request that is read of a line, in a reader's words.
use Rattle.std.specs.Prelude.{◌≡◌, ℕ, ◌<◌, ◌≤◌, ◌^◌, List, length, Ok}
use Rattle.std.specs.List.{AllByRecursion}
use Rattle.scp_parser.specs.Command.{Request, IsKept, file_name_of, given_text, given_quoted}
use Rattle.scp_parser.specs.Grammar.{longest_line}
use Rattle.scp_parser.specs.Reading.{reading}

-- The texts of a request are of bytes: the name of its file, the text that it gives, which is no longer than a line, and a
-- quoted text as it stands.
pub record IsOfBytes (r : Request) : Type 0 where
  pub name : AllByRecursion (λ (b : ℕ). b < 2 ^ 8) (file_name_of r)
  pub text : AllByRecursion (λ (b : ℕ). b < 2 ^ 8) (given_text r)
  pub short : length (given_text r) ≤ longest_line
  pub quoted : AllByRecursion (λ (b : ℕ). b < 2 ^ 8) (given_quoted r)

-- What is read of a line keeps the facts of its command, and of a line of bytes its texts are of bytes, and no longer than a
-- line may be.
pub record RequestsAreKept : Type 0 where
  pub kept : (line : List ℕ) (r : Request) → reading line ≡ Ok r → IsKept r
  pub bytes : (line : List ℕ) (r : Request) → AllByRecursion (λ (b : ℕ). b < 2 ^ 8) line → reading line ≡ Ok r
      → IsOfBytes r
