-- Worked examples of the definitions, computed: fields of each kind, document 01's first card line, columns.
use Prim.Native.Nat.{ℕ}
use mathlib.Core.Path.{◌≡◌, refl}
use mathlib.Core.List.{List, ◌∷◌, ◌++◌, []}
use mathlib.Core.Option.{none, some}
use lib.ListN.{replicate}
use Rattle.slices.specs.Choices.{pick}
use Rattle.text.specs.Fields.{space, digit, is_digit, decimal, number, field, field_from}
use Rattle.text.specs.Lines.{newline, four, line}
use Rattle.text.specs.Justified.{digits, justified, line_of}

-- The bytes behind as many spaces as fill a field of eight bytes with them.
abbrev spaced : ℕ → List ℕ → List ℕ
spaced k bytes = replicate k space ++ bytes

field_zero : field (spaced 7 (digit 0 ∷ [])) ≡ some 0
unfolding field number decimal pick is_digit
field_zero = refl

field_full : field (digit 9 ∷ digit 9 ∷ digit 9 ∷ digit 9 ∷ digit 9 ∷ digit 9 ∷ digit 9 ∷ digit 8 ∷ []) ≡ some 99999998
unfolding field number decimal pick is_digit
field_full = refl

no_digit : field (replicate 8 space) ≡ none
unfolding field pick
no_digit = refl

leading_zero : field (spaced 6 (digit 0 ∷ digit 7 ∷ [])) ≡ none
unfolding field number decimal pick is_digit
leading_zero = refl

space_behind : field (spaced 6 (digit 7 ∷ space ∷ [])) ≡ none
unfolding field number decimal pick is_digit
space_behind = refl

no_decimal : field (spaced 6 (digit 7 ∷ digit 10 ∷ [])) ≡ none
unfolding field number decimal pick is_digit
no_decimal = refl

-- The first line of document 01's card: 8, 4, 4, 4.
line_one : List ℕ
line_one =
    spaced 7 (digit 8 ∷ [])
    ++ (spaced 7 (digit 4 ∷ []) ++ (spaced 7 (digit 4 ∷ []) ++ (spaced 7 (digit 4 ∷ []) ++ (newline ∷ []))))

line_one_read : line line_one ≡ some (record { first = 8; second = 4; third = 4; fourth = 4 })
unfolding line_one line four field_from field number decimal pick is_digit
line_one_read = refl

line_one_written : line_of (record { first = 8; second = 4; third = 4; fourth = 4 }) ≡ line_one
unfolding line_one line_of justified digits pick
line_one_written = refl

column_ten : justified 8 10 ≡ spaced 6 (digit 1 ∷ digit 0 ∷ [])
unfolding justified digits pick
column_ten = refl

-- The largest word in twenty bytes, and a number that does not fit.
column_word : justified 20 18446744073709551615
    ≡ digit 1 ∷ digit 8 ∷ digit 4 ∷ digit 4 ∷ digit 6 ∷ digit 7 ∷ digit 4 ∷ digit 4 ∷ digit 0 ∷ digit 7 ∷ digit 3 ∷ digit 7 ∷ digit 0 ∷ digit 9 ∷ digit 5 ∷ digit 5 ∷ digit 1 ∷ digit 6 ∷ digit 1 ∷ digit 5 ∷ []
unfolding justified digits pick
column_word = refl

column_cut : justified 2 1005 ≡ digit 0 ∷ digit 5 ∷ []
unfolding justified digits pick
column_cut = refl
