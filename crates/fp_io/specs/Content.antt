-- The content that files and sinks expose, and how a call may change it. If all bytes are appended,
-- contracts use `Appends` of the standard library.
use Rattle.std.specs.Prelude.{◌≡◌, ℕ, ◌+◌, ◌≤◌, List, ◌++◌, length, take}
use Rattle.std.specs.Prelude.{Option, Some, None, ⊤, IfSome, IsSomeAnd, IsNone}

-- the bytes of each name that has a file
abbrev pub FileMap : Type 0
FileMap = List ℕ → Option (List ℕ)

-- if the map is exposed, the name has a file, and these bytes are its first `most + 1`, or the
-- whole file if it is shorter
abbrev pub Fetched : Option FileMap → List ℕ → ℕ → List ℕ → Type 0
Fetched contents name most bytes =
    IfSome contents (λ files. IsSomeAnd (files name) (λ whole. bytes ≡ take (most + 1) whole))

-- the map is exposed, and the name has no file
abbrev pub IsMissing : Option FileMap → List ℕ → Type 0
IsMissing contents name = IsSomeAnd contents (λ files. IsNone (files name))

-- if the bytes taken before are exposed, so are those taken after: the bytes before, followed by a
-- prefix of these bytes, possibly none or all of them
abbrev pub AppendsPrefix : Option (List ℕ) → Option (List ℕ) → List ℕ → Type 0
AppendsPrefix None after bytes = ⊤
AppendsPrefix (Some xs) None bytes = ⊥
AppendsPrefix (Some xs) (Some ys) bytes = (n : ℕ) × (n ≤ length bytes) × (ys ≡ xs ++ take n bytes)

-- a request to files: a name, and the most bytes that its file may have
abbrev pub Request : Type 0
Request = List ℕ × ℕ

-- if the requests before are exposed, so are those after: the requests before, followed by these
abbrev pub HasRequested : Option (List Request) → Option (List Request) → List Request → Type 0
HasRequested None after requests = ⊤
HasRequested (Some xs) None requests = ⊥
HasRequested (Some xs) (Some ys) requests = ys ≡ xs ++ requests
