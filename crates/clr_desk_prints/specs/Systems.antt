-- Systems of coordinates by their names, and what is printed in one.
use Rattle.std.specs.Prelude.{◌≡◌, ◌≢◌, ℕ, ◌<◌, ◌^◌, List, [], ◌++◌, codes, decimal, Option, Some, None, Ok}
use Rattle.clr_desk_prints.specs.Printing.{PrintoutOrFault}

-- how a system of coordinates is named by its number in the register of EPSG, as `EPSG:25832`
abbrev pub system_name : ℕ → List ℕ
system_name code = codes "EPSG:" ++ decimal code

-- a text names no system
abbrev pub IsNoSystem : List ℕ → Type 0
IsNoSystem text = (code : ℕ) → code < 2 ^ 32 → text ≢ system_name code

-- no text, and a note that this names no system
abbrev pub no_system_print : List ℕ → PrintoutOrFault
no_system_print text = Ok (record {
  text = [];
  notes = codes "'" ++ text ++ codes "' names no system of coordinates: write EPSG: and a number, as EPSG:25832\n";
  status = 2;
})

-- what is printed in the system that a text names, if one is given, or that it names none
pub data IsInSystem (IsPrint : Option ℕ → PrintoutOrFault → Type 0) (system : Option (List ℕ)) (print : PrintoutOrFault) : Type 0 where
  without_system : system ≡ None → IsPrint None print → IsInSystem IsPrint system print
  in_system : (code : ℕ) → system ≡ Some (system_name code) → IsPrint (Some code) print → IsInSystem IsPrint system print
  of_no_system : (text : List ℕ) → system ≡ Some text → IsNoSystem text → print ≡ no_system_print text → IsInSystem IsPrint system print
