-- The chain of checks. A call's checks are one `Check`, accepted or the first refusal of its conditions in the order of docs/PROMISES.md; it
-- decides the call's own answer (`answer`) and each list the call was lent (`leaves`).
use Rattle.std.specs.Prelude.{Bool, true, false, ℕ, zero, suc, eqb, Result, Ok, Err}
use Rattle.base.specs.declared.Refusal.{Refusal}
use Rattle.base.specs.declared.Refusal.TheVariants.{OverLimit, RowPtrLength, EntryLengths, RowPtrStart, RowPtrEnd, RowPtrFalls, ColumnOutside, NotFinite, BadTopology, NotSquare, WrongLength, BitPastLength, OutOfRange, NoBlock, EmptyBlock, RepeatedBlock, UnknownKind, TotalNotSides, NoRanks, OwnerOutOfRange, OwnersDiffer, SidesDiffer, PairWithoutEntry, EntryWithoutPair, ListTooShort, BadPointers, MalformedJob}

infixr 10 ◌then◌
-- the limits of refusal 1
abbrev pub side_limit : ℕ
side_limit = 1048576

abbrev pub entry_limit : ℕ
entry_limit = 16777216

abbrev pub region_limit : ℕ
region_limit = 65536

-- ---- a refusal's number in the table of include/hybit_matrix.h, and its two figures, which are 0 but for 11

abbrev pub refusal_number : Refusal → ℕ
refusal_number OverLimit = 1
refusal_number RowPtrLength = 2
refusal_number EntryLengths = 3
refusal_number RowPtrStart = 4
refusal_number RowPtrEnd = 5
refusal_number RowPtrFalls = 6
refusal_number ColumnOutside = 7
refusal_number NotFinite = 8
refusal_number BadTopology = 9
refusal_number NotSquare = 10
refusal_number (WrongLength e a) = 11
refusal_number BitPastLength = 12
refusal_number OutOfRange = 13
refusal_number NoBlock = 14
refusal_number EmptyBlock = 15
refusal_number RepeatedBlock = 16
refusal_number UnknownKind = 17
refusal_number TotalNotSides = 18
refusal_number NoRanks = 19
refusal_number OwnerOutOfRange = 20
refusal_number OwnersDiffer = 21
refusal_number SidesDiffer = 22
refusal_number PairWithoutEntry = 23
refusal_number EntryWithoutPair = 24
refusal_number ListTooShort = 25
refusal_number BadPointers = 26
refusal_number MalformedJob = 27

abbrev pub refusal_expected : Refusal → ℕ
refusal_expected (WrongLength e a) = e
refusal_expected _ = 0

abbrev pub refusal_actual : Refusal → ℕ
refusal_actual (WrongLength e a) = a
refusal_actual _ = 0

-- ---- a check accepts, or refuses

abbrev pub Check : Type 0
Check = Result Unit Refusal

-- what must hold, and the refusal where it does not
unfoldable pub must : Bool → Refusal → Check
must true r = Ok tt
must false r = Err r

-- a length that must be the expected one: refusal 11
unfoldable pub must_be : ℕ → ℕ → Check
must_be expected actual = must (eqb actual expected) (WrongLength expected actual)

-- one check, and where it accepts the next: the first refusal decides
unfoldable pub ◌then◌ : Check → Check → Check
◌then◌ (Ok _) next = next
◌then◌ (Err r) next = Err r

-- check 0, check 1, … , n of them: the first that refuses decides
unfoldable pub checks_below : ℕ → (ℕ → Check) → Check
checks_below zero check = Ok tt
checks_below (suc n) check = checks_below n check then check n

-- what is answered, or left in a list, where the checks accept, and by what a refusal is handed on
abbrev pub after : {A : Type 0} → Check → A → (Refusal → A) → A
after (Ok _) a f = a
after (Err r) a f = f r

-- what a call answers: its answer where its checks accept, else the refusal
abbrev pub answer : {A : Type 0} → Check → A → Result A Refusal
answer c a = after c (Ok a) Err

-- what a call leaves in a list: the new where its checks accept, else the list as it was
abbrev pub leaves : {A : Type 0} → Check → A → A → A
leaves c new old = after c new (λ r. old)
