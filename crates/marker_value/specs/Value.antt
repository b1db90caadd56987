-- "A value is quoted, up to the next same quote, or a token up to whitespace or one of `> = < ! ~ )`."
use Rattle.std.specs.Prelude.{ℕ, ◌+◌, ◌-◌, ◌≤◌, cond, List, ltb, length, Option, Some, None, Result, Ok, Err}
use Rattle.cursor.specs.Cursor.{cursor}
use Rattle.cursor.specs.declared.cursor.Cursor.{Cursor}
use Rattle.marker_kind.specs.declared.kind.Key.TheVariants.{PythonVersion, PythonFullVersion, ImplementationVersion, OsName, SysPlatform, PlatformRelease, PlatformSystem, PlatformVersion, PlatformMachine, PlatformPythonImplementation, ImplementationName}
use Rattle.refusal.specs.Refusal.{span, refusal}
use Rattle.refusal.specs.declared.fault.Fault.TheVariants.{ValueMissing, ValueUnknown, ExpectedFoundEnd}
use Rattle.refusal.specs.declared.fault.Refusal.{Refusal}
use Rattle.refusal.specs.declared.place.Span.{Span}
use Rattle.text.specs.Class.{is_quote, is_other, is_token_byte}
use Rattle.text.specs.Scan.{skip, byte_at}
use Rattle.text.specs.Word.{bytes, spells}
use Rattle.marker_value.specs.declared.value.Value.{Value}

-- "The twelve names are compared byte for byte." `platform_machine`, `platform_python_implementation`, `implementation_name`; "And `extra`."
unfoldable pub last_name_in : List ℕ → Span → Option Value
last_name_in s at =
    cond (spells (bytes "platform_machine") s at) (Some (Value.String PlatformMachine))
    (cond (spells (bytes "platform_python_implementation") s at) (Some (Value.String PlatformPythonImplementation))
    (cond (spells (bytes "implementation_name") s at) (Some (Value.String ImplementationName))
    (cond (spells (bytes "extra") s at) (Some Value.Extra)
    None)))

-- "Strings: `os_name`, `sys_platform`, `platform_release`, `platform_system`, `platform_version`, .."
unfoldable pub string_name_in : List ℕ → Span → Option Value
string_name_in s at =
    cond (spells (bytes "os_name") s at) (Some (Value.String OsName))
    (cond (spells (bytes "sys_platform") s at) (Some (Value.String SysPlatform))
    (cond (spells (bytes "platform_release") s at) (Some (Value.String PlatformRelease))
    (cond (spells (bytes "platform_system") s at) (Some (Value.String PlatformSystem))
    (cond (spells (bytes "platform_version") s at) (Some (Value.String PlatformVersion))
    (last_name_in s at)))))

-- "Versions: `python_version`, `python_full_version`, `implementation_version`."
unfoldable pub version_name_in : List ℕ → Span → Option Value
version_name_in s at =
    cond (spells (bytes "python_version") s at) (Some (Value.Version PythonVersion))
    (cond (spells (bytes "python_full_version") s at) (Some (Value.Version PythonFullVersion))
    (cond (spells (bytes "implementation_version") s at) (Some (Value.Version ImplementationVersion))
    (string_name_in s at)))

-- "19: unquoted value not a known name: token"
abbrev pub took_name : Option Value → ℕ → ℕ → Result (Value × Cursor) Refusal
took_name (Some value) at end = Ok (value, cursor end)
took_name None at end = Err (refusal ValueUnknown at (end - at))

-- "a token up to whitespace or one of `> = < ! ~ )`"
unfoldable pub named_at : List ℕ → ℕ → Result (Value × Cursor) Refusal
named_at s at = let end = skip is_token_byte s at in took_name (version_name_in s (span at (end - at))) at end

-- "quoted, up to the next same quote", "literal span (inside the quotes)"; "22: expected byte, found the end: quote .. opened; 1"
unfoldable pub quoted_at : List ℕ → ℕ → Result (Value × Cursor) Refusal
quoted_at s at =
    let inside = at + 1 in
    let close = skip (is_other (byte_at s at)) s inside in
    cond (ltb close (length s)) (Ok (Value.Quoted (span inside (close - inside)), cursor (close + 1)))
    (Err (refusal ExpectedFoundEnd at 1))

-- "18: marker value wanted at the end: end, 1"
unfoldable pub value_at : List ℕ → ℕ → Result (Value × Cursor) Refusal
value_at s at =
    cond (ltb at (length s)) (cond (is_quote (byte_at s at)) (quoted_at s at) (named_at s at))
    (Err (refusal ValueMissing (length s) 1))

-- a literal lies within the line, so that its bytes can be read
abbrev pub Inside : List ℕ → Span → Type 0
Inside s at = at.start.0 + at.len ≤ length s

-- and so does a value's
abbrev pub ValueInside : List ℕ → Value → Type 0
ValueInside s (Value.Version key) = Unit {0}
ValueInside s (Value.String key) = Unit {0}
ValueInside s Value.Extra = Unit {0}
ValueInside s (Value.Quoted at) = Inside s at
