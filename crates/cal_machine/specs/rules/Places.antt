-- Where a path leads (path_resolution(7), symlink(7)), and what is there.
use Rattle.std.specs.Prelude.{ℕ, suc, zero, ◌==◌, nat_eq, Bool, false, true, ◌||◌, not, List, [], ◌∷◌, ◌++◌, codes, length, take, Option, Result, Ok, Err, if◌then◌else◌, option_map, map, string_bytes}
use Rattle.std.specs.List.{ends_with, flat_map, slice_split, starts_with}
use Rattle.std.specs.Option.{unwrap_or}
use Rattle.std.specs.Path.{rfind_below}
use Rattle.std.specs.Str.{bytes_eq}
use Rattle.cal_machine.specs.declared.follow.Content as contents
use Rattle.cal_machine.specs.declared.follow.Last.{Last}
use Rattle.cal_machine.specs.declared.follow.Last.TheVariants.{Followed, Kept}
use Rattle.cal_machine.specs.declared.follow.Place as places
use Rattle.cal_machine.specs.declared.steps.Step as steps
use Rattle.cal_machine.specs.declared.tree.Unreadable.{Unreadable}
use Rattle.cal_machine.specs.declared.tree.Unreadable.TheVariants.{Failed}
use Rattle.cal_machine.specs.rules.Machine.{Entry, Listing, Machine, no_names, shown_entry}
use Rattle.cal_machine.specs.rules.Machine.Entry.{Missing, Empty, File, Device, Folder, Link}
use Rattle.cal_machine.specs.rules.Seen.{seen}

-- ## Paths and their parts

abbrev pub slash : ℕ
slash = 47

abbrev pub is_slash : ℕ → Bool
is_slash byte = byte == slash

-- the parts of a path, between its slashes
abbrev pub parts_of : List ℕ → List (List ℕ)
parts_of path = slice_split is_slash path

-- whether a part leads nowhere else: it is empty or `.`
abbrev pub stays : List ℕ → Bool
stays part = bytes_eq part [] || bytes_eq part (codes ".")

abbrev pub child : List ℕ → List ℕ → List ℕ
child folder part = folder ++ slash ∷ part

-- a part with a slash before it, or nothing if it is empty or `.`
abbrev pub below : List ℕ → List ℕ
below part = if stays part then [] else slash ∷ part

-- The folder in which a path starts: the root, which is the empty path, if `path` is absolute, and otherwise `folder`.
abbrev pub start_in : List ℕ → List ℕ → List ℕ
start_in folder path = if starts_with nat_eq path (codes "/") then [] else folder

-- whether a path is relative to the folder in which the program runs, and leads to this folder or to one above it
abbrev pub is_outside : List ℕ → Bool
is_outside folder = bytes_eq folder (codes ".") || ends_with nat_eq folder (codes "/..")

-- the part of a text before its last byte of this value; None if it has no such byte
abbrev pub before_last_byte : ℕ → List ℕ → Option (List ℕ)
before_last_byte byte text = option_map (λ index. take index text) (rfind_below byte text (length text))

-- The folder to which `..` leads from a folder: its path before the last slash. Above the root, which is the empty path,
-- is the root itself. Above the folder in which the
-- program runs, `..` is kept, because the path has no part that could be left out.
abbrev pub above : List ℕ → List ℕ
above folder = if is_outside folder then child folder (codes "..") else unwrap_or (before_last_byte slash folder) []

-- ## Where a path leads

-- a path whose folders aren't links, and what is there
pub record Place : Type 0 where
  pub path : List ℕ
  pub entry : Entry

abbrev pub is_last : List (List ℕ) → Bool
is_last [] = true
is_last (part ∷ rest) = false

-- The place at which a path ends if it can't go on from this entry; `rest` are the parts of the path that are left. If
-- there are any, nothing is at the place, and its path ends with these parts, unresolved.
abbrev pub place_at : List ℕ → List (List ℕ) → Entry → Place
place_at path rest entry = record { path = path ++ flat_map below rest; entry = if is_last rest then entry else Missing }

-- whether a link is followed if the parts `rest` come after it: always if there are any, and otherwise only if the
-- first argument is `Followed`
abbrev pub is_followed : Last → List (List ℕ) → Bool
is_followed Followed rest = true
is_followed Kept rest = not (is_last rest)

-- one step along a path: it goes on in a folder, with the parts that are left, or it ends
pub data Step : Type 0 where
  On : (folder : List ℕ) → (rest : List (List ℕ)) → Step
  Ended : (place : Place) → Step

-- The step from `folder` to `path`, which is in it; the last argument is what is at `path`. `rest` are the parts that
-- are left. If a link is followed, the parts of its target are put before them.
abbrev pub step_at : Last → List ℕ → List ℕ → List (List ℕ) → Entry → Step
step_at last folder path rest Folder = On path rest
step_at last folder path rest (Link target) =
    if is_followed last rest
    then On (start_in folder target) (parts_of target ++ rest)
    else Ended (place_at path rest (Link target))
step_at last folder path rest Missing = Ended (place_at path rest Missing)
step_at last folder path rest Empty = Ended (place_at path rest Empty)
step_at last folder path rest File = Ended (place_at path rest File)
step_at last folder path rest Device = Ended (place_at path rest Device)

abbrev pub step : Machine → Last → List ℕ → List ℕ → List (List ℕ) → Result Step Unreadable
step machine last folder part rest =
    if stays part
    then Ok (On folder rest)
    else if bytes_eq part (codes "..")
    then Ok (On (above folder) rest)
    else seen (step_at last folder (child folder part) rest) (machine.entry (child folder part))

abbrev pub after_step : (List ℕ → List (List ℕ) → Result Place Unreadable) → Result Step Unreadable → Result Place Unreadable
after_step go_on (Ok (On folder rest)) = go_on folder rest
after_step go_on (Ok (Ended place)) = Ok place
after_step go_on (Err why) = Err why

-- the place to which these parts lead from a folder, in at most `count` steps
unfoldable pub walk : Machine → Last → ℕ → List ℕ → List (List ℕ) → Result Place Unreadable
walk machine last count folder [] = Ok (record { path = folder; entry = Folder })
walk machine last zero folder (part ∷ rest) = Err Failed
walk machine last (suc count) folder (part ∷ rest) = after_step (walk machine last count) (step machine last folder part rest)

-- The maximum number of steps. A path that needs more can't be followed, such as one that leads through links in a
-- circle. The number is this project's choice.
abbrev pub max_steps : ℕ
max_steps = 1000

-- The place to which a path leads. The folders on the way are followed if they are links. `last` says whether a link at
-- the end is followed, too. The folder in which the program runs is `.`.
abbrev pub place_of : Machine → Last → List ℕ → Result Place Unreadable
place_of machine last path = walk machine last max_steps (start_in (codes ".") path) (parts_of path)

-- ## What is at a path

-- what is at a path; a link at the end of the path isn't followed
abbrev pub entry_at : Machine → List ℕ → Result Entry Unreadable
entry_at machine path = seen (λ place. place.entry) (place_of machine Kept path)

-- the result of `what` for a place, or the error if the place can't be found
abbrev pub at_place : {X : Type 0} → (Place → Result X Unreadable) → Result Place Unreadable → Result X Unreadable
at_place what (Ok place) = what place
at_place what (Err why) = Err why

abbrev pub names_in : Machine → List ℕ → Entry → Result Listing Unreadable
names_in machine path Folder = machine.names path
names_in machine path _ = Ok no_names

-- the names in the folder to which a path leads; there are none if it leads to anything else
abbrev pub names_at : Machine → List ℕ → Result Listing Unreadable
names_at machine folder = at_place (λ place. names_in machine place.path place.entry) (place_of machine Followed folder)

-- what can be read at a path: nothing, a folder, an empty file or a device, or the bytes of a file
pub data Content : Type 0 where
  Nothing : Content
  InFolder : Content
  Blank : Content
  Text : (bytes : List ℕ) → Content

abbrev pub content_in : Machine → List ℕ → Entry → Result Content Unreadable
content_in machine path Missing = Ok Nothing
content_in machine path Empty = Ok Blank
content_in machine path File = seen Text (machine.file path)
content_in machine path Device = Ok Blank
content_in machine path Folder = Ok InFolder
content_in machine path (Link target) = Ok Nothing

-- what can be read at the end of a path; all links are followed
abbrev pub content_at : Machine → List ℕ → Result Content Unreadable
content_at machine path = at_place (λ place. content_in machine place.path place.entry) (place_of machine Followed path)

-- ## What a call returned

abbrev pub shown_place : places.Place → Place
shown_place place = record { path = string_bytes place.path; entry = shown_entry place.entry }

abbrev pub shown_step : steps.Step → Step
shown_step (steps.TheVariants.On folder rest) = On (string_bytes folder) (map string_bytes rest.items)
shown_step (steps.TheVariants.Ended place) = Ended (shown_place place)

abbrev pub shown_content : contents.Content → Content
shown_content contents.TheVariants.Nothing = Nothing
shown_content contents.TheVariants.Folder = InFolder
shown_content contents.TheVariants.Blank = Blank
shown_content (contents.TheVariants.Text bytes) = Text bytes.items
