use Rattle.std.proofs.Common.{rules, ◌∙◌, string_bytes}
use Rattle.std.specs.Str.{bytes_eq}
use Rattle.std.proofs.lemmas.Iterator.{YieldsList-from_slice}
use Rattle.std.proofs.lemmas.Iterator.Search.{any_from_yields_List}
use Rattle.cal_unit_index.proofs.SearchPathLemmas.{any_of_texts}
use Rattle.cal_unit_index.proofs.paths.has_folder.Goals as goal
use borrow.Author.Tests.{tests}

pub returns : goal.returns
returns c =
    any_from_yields_List (λ known. bytes_eq c.args.folder.now (string_bytes known)) _ _ c.any.result c.any.ensures.ran (YieldsList-from_slice c.args.search_path.now cc) (λ x b q k. search (rules, tests))
    ∙ any_of_texts (bytes_eq c.args.folder.now) c.args.search_path.now
