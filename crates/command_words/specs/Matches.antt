-- What clap is told of the words behind a command's name, and what it finds in them.
use Rattle.std.specs.Prelude.{◌≡◌, [], Option, Some, None, codes, true, unwrap_or}
use Rattle.std.specs.Option.{option_map, option_to_list}
use Rattle.clap.specs.Walk.{Rule}
use Rattle.clap.specs.Simple.{App, new_app, new_rule, with_rule, on_top}
use Rattle.clap.specs.Matches.{found_of, matched_of, raw_values, first_value}
use Rattle.clap.specs.declared.builder.action.ArgAction.TheVariants.{Set, Append}
use Rattle.clap.specs.declared.parser.matches.ArgMatches.{ArgMatches}
use Rattle.command_words.specs.Words.{Rest, workers_of}

-- `--workers N`, once at most
abbrev pub workers_rule : Rule
workers_rule = record (new_rule (codes "workers")) { long = Some (codes "workers"); action = Some Set }

-- any number of plain words
abbrev pub plain_rule : Rule
plain_rule = record (new_rule (codes "plain")) { action = Some Append }

-- the words have no program's name at their front, and `--help` and `--version` mean nothing
abbrev pub bare_app : App
bare_app = on_top (λ s. record s { no_binary_name = true; disable_help_flag = true; disable_version_flag = true }) (new_app (codes "dejavu"))

-- what the words behind a command's name may be
abbrev pub rest_app : App
rest_app = with_rule (with_rule bare_app workers_rule) plain_rule

-- the plain words of the matches, and their number of workers where it was given
abbrev pub rest_shown : ArgMatches → Rest
rest_shown matches = record {
  plain = unwrap_or (option_map raw_values (matched_of (found_of matches) (codes "plain"))) [];
  workers = option_to_list (first_value (found_of matches) (codes "workers"));
}

-- the words are no rest of a command, or one with no number of workers
abbrev pub HasNoNumber : Option Rest → Type 0
HasNoNumber None = Unit {0}
HasNoNumber (Some rest) = workers_of rest.workers ≡ None
