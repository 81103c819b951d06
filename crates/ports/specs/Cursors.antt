-- Where a port stands in a listing: the last byte that it has read.
use Rattle.std.specs.Prelude.{◌≡◌, Bool, if◌then◌else◌, ◌&&◌, List, [], ◌∷◌, ◌++◌, ℕ, suc, ◌+◌, ◌-◌, ◌==◌, nat_le, length, Option, Some, None}

-- the lines of a listing, each with the place of its certificate: 16 r + m for member m and round r
abbrev pub Lines : Type 0
Lines = List (ℕ × List ℕ)

-- their bytes
unfoldable pub text : Lines → List ℕ
text [] = []
text (e ∷ l) = e.1 ++ text l

-- the line of a place
unfoldable pub line_of : Lines → ℕ → Option (List ℕ)
line_of [] p = None
line_of (e ∷ l) p = if e.0 == p then Some e.1 else line_of l p

-- the lines after it
unfoldable pub lines_after : Lines → ℕ → Lines
lines_after [] p = []
lines_after (e ∷ l) p = if e.0 == p then l else lines_after l p

-- no place has two lines
abbrev pub Once : Lines → Type 0
Once [] = Unit {0}
Once (e ∷ l) = (line_of l e.0 ≡ None) × Once l

-- byte j, counted from 1, of a line of n bytes
abbrev pub in_line : ℕ → ℕ → Bool
in_line j n = nat_le 1 j && nat_le j n

-- how many bytes of the listing have been read, where the last is byte j of the line of place p; where the listing has no such byte it is past the end
unfoldable pub read_to : Lines → ℕ → ℕ → ℕ
read_to [] p j = 1
read_to (e ∷ l) p j =
    if e.0 == p then (if in_line j (length e.1) then j else suc (length (text (e ∷ l))))
    else length e.1 + read_to l p j

-- nothing has been read where both are 0
unfoldable pub bytes_read : Lines → ℕ → ℕ → ℕ
bytes_read l p j = if p == 0 && j == 0 then 0 else read_to l p j

-- the last of the first n bytes: the place of its line, and which byte of it; both are 0 where n is 0
unfoldable pub cursor_of : Lines → ℕ → ℕ × ℕ
cursor_of [] n = (0, 0)
cursor_of (e ∷ l) n =
    if n == 0 then (0, 0)
    else if nat_le n (length e.1) then (e.0, n)
    else cursor_of l (n - length e.1)
