-- Names of services: 1 to 16 bytes of a-z, 0-9 and '-', padded with zeros to 16 bytes.
use Rattle.std.specs.Prelude.{◌≡◌, ℕ, ◌-◌, List, ◌++◌, length, replicate, take_while, Bool, not, ◌&&◌, ◌||◌, ◌==◌, nat_le, IsTrue}
use Rattle.std.specs.List.{list_all}

abbrev pub is_name_byte : ℕ → Bool
is_name_byte b = (nat_le 97 b && nat_le b 122) || (nat_le 48 b && nat_le b 57) || b == 45

-- 1 to 16 bytes of a-z, 0-9 and '-'
abbrev pub is_name_text : List ℕ → Bool
is_name_text text = nat_le 1 (length text) && nat_le (length text) 16 && list_all is_name_byte text

abbrev pub padded_name : List ℕ → List ℕ
padded_name text = text ++ replicate (16 - length text) 0

-- the 16 bytes of a name
abbrev pub IsName : List ℕ → Type 0
IsName bytes = (text : List ℕ) × IsTrue (is_name_text text) × (bytes ≡ padded_name text)

-- the name without its zeros
abbrev pub name_text : List ℕ → List ℕ
name_text bytes = take_while (λ b. not (b == 0)) bytes
