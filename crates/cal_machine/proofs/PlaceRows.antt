-- Paths on a small machine, which check the definition of where a path leads.
use Rattle.std.proofs.Common.{◌≡◌, ℕ, List, [], ◌∷◌, Result, Ok, Err, codes, map, refl, None}
use Rattle.std.specs.Map.{lookup}
use Rattle.std.specs.Option.{unwrap_or}
use Rattle.std.specs.Str.{bytes_eq}
use Rattle.cal_machine.specs.declared.follow.Last.TheVariants.{Followed, Kept}
use Rattle.cal_machine.specs.declared.tree.Unreadable.{Unreadable}
use Rattle.cal_machine.specs.declared.tree.Unreadable.TheVariants.{Failed}
use Rattle.cal_machine.specs.rules.Machine.{Entry, Machine, no_names}
use Rattle.cal_machine.specs.rules.Machine.Entry.{Missing, File, Folder, Link}
use Rattle.cal_machine.specs.rules.Places.{Place, place_of, walk}

entries : List (List ℕ × Entry)
entries =
    (codes "/a", Folder) ∷ (codes "/a/b", Folder) ∷ (codes "/a/b/c", File) ∷ (codes "/down", Link (codes "a/b")) ∷ (codes "/file", Link (codes "/down/c"))
    ∷ (codes "/a/over", Link (codes "../down")) ∷ (codes "/circle", Link (codes "./circle")) ∷ (codes "./r", Link (codes "/a")) ∷ []

machine : Machine
machine = record {
  entry = λ path. Ok (unwrap_or (lookup (bytes_eq path) entries) Missing);
  names = λ folder. Ok no_names;
  file = λ file. Err Failed;
  variable = λ name. Ok None;
}

leads_to : List ℕ → Entry → Result Place Unreadable
leads_to path entry = Ok (record { path = path; entry = entry })

-- a link through a link with an absolute target, relative targets, `..` after a link, and `..` above the root
links : map (place_of machine Followed) (codes "/file" ∷ codes "/down/c" ∷ codes "/a/over/c" ∷ codes "/down/.." ∷ codes "//../down/./" ∷ codes "/../.." ∷ [])
    ≡ leads_to (codes "/a/b/c") File ∷ leads_to (codes "/a/b/c") File ∷ leads_to (codes "/a/b/c") File ∷ leads_to (codes "/a") Folder
    ∷ leads_to (codes "/a/b") Folder ∷ leads_to [] Folder ∷ []
unfolding entries machine leads_to walk
links = refl

-- something below a file, something in a missing folder, and something missing after a link and `..`
missing : map (place_of machine Followed) (codes "/a/b/c/d" ∷ codes "/down/x//y" ∷ codes "/a/over/../x" ∷ [])
    ≡ leads_to (codes "/a/b/c/d") Missing ∷ leads_to (codes "/a/b/x/y") Missing ∷ leads_to (codes "/a/x") Missing ∷ []
unfolding entries machine leads_to walk
missing = refl

-- a link at the end is kept, unless a slash follows it
kept : map (place_of machine Kept) (codes "/file" ∷ codes "/down/" ∷ [])
    ≡ leads_to (codes "/file") (Link (codes "/down/c")) ∷ leads_to (codes "/a/b") Folder ∷ []
unfolding entries machine leads_to walk
kept = refl

-- relative paths, which start in the folder in which the program runs
relative : map (place_of machine Followed) (codes "r/b" ∷ codes "x" ∷ codes "./.." ∷ codes "../x/.." ∷ codes "." ∷ [])
    ≡ leads_to (codes "/a/b") Folder ∷ leads_to (codes "./x") Missing ∷ leads_to (codes "./..") Folder ∷ leads_to (codes "./../x/..") Missing
    ∷ leads_to (codes ".") Folder ∷ []
unfolding entries machine leads_to walk
relative = refl

circle : place_of machine Followed (codes "/circle") ≡ Err Failed
unfolding entries machine walk
circle = refl
