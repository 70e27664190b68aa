-- JSON values of numbers, optional values, lists and objects, and how a document is laid out.
use Rattle.std.specs.Prelude.{ℕ, ℤ, List, [], ◌∷◌, ◌++◌, Option, Some, None, map, decimal, codes}
use Rattle.std.specs.Fmt.{signed_decimal}
use Rattle.json.specs.Json.{Json, null, number, array, object, Members, no_members, member}
use Rattle.json.specs.Value.{items_of}
use Rattle.json.specs.Tree.{json_tokens}
use Rattle.json.specs.Layout.{pretty}

abbrev pub integer : ℤ → Json
integer value = number (signed_decimal value)

abbrev pub natural : ℕ → Json
natural value = number (decimal value)

abbrev pub or_null : {X : Type 0} → (X → Json) → Option X → Json
or_null json None = null
or_null json (Some value) = json value

-- the JSON array with these values, in this order
abbrev pub array_of : List Json → Json
array_of values = array (items_of values)

-- an array with the JSON value of each element
abbrev pub list_of : {X : Type 0} → (X → Json) → List X → Json
list_of json values = array_of (map json values)

abbrev pub members_of : List (List ℕ × Json) → Members
members_of [] = no_members
members_of (m ∷ ms) = member m.0 m.1 (members_of ms)

-- an object with these members, in this order
abbrev pub object_of : List (List ℕ × Json) → Json
object_of members = object (members_of members)

-- an indented JSON text and a line feed
abbrev pub json_document : Json → List ℕ
json_document value = pretty (json_tokens value) ++ codes "\n"
