-- Where a field stands, and where none does.
use Prim.Native.Nat.{ℕ, ◌+◌, ◌≤◌, ◌<◌}
use mathlib.Core.Path.{◌≡◌, sym}
use mathlib.Core.List.{List}
use lib.ListN.{length, get_or}
use borrow.Author.Tests.{le-leb, lt-leb, lt-ltb, le-ltb}
use Rattle.fields.specs.Fields.{header, field_at, length_at}
use Rattle.fields.specs.declared.Field.TheVariants.{Whole, Cut, End}

pub none-at : (file : List ℕ) (at : ℕ) → length file ≤ at → End ≡ field_at file at
unfolding field_at
none-at file at h = rw (le-ltb at (length file) h)

pub cut_at : (file : List ℕ) (at : ℕ) → at < length file → length file < at + header + length_at file at → Cut ≡ field_at file at
unfolding field_at
cut_at file at h o = rw (lt-ltb at (length file) h, lt-leb (at + header + length_at file at) (length file) o)

pub whole-at : (file : List ℕ) (at len : ℕ) → at < length file → len ≡ length_at file at → at + header + len ≤ length file
    → Whole (get_or file at 0) (at + header) (at + header + len) ≡ field_at file at
unfolding field_at
whole-at file at len h e i = rw (lt-ltb at (length file) h, le-leb (at + header + length_at file at) (length file) (rw (sym e) i), e)
