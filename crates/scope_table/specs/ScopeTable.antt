-- Document 01, "Proved together, as one table": its thirteen rows, over the definitions that the code is proved against. Assumes nothing.
use Rattle.std.specs.Prelude.{◌≡◌, false, List, [], ◌∷◌}
use Rattle.std.proofs.Math.Option.{some}
use Rattle.base.specs.Bytes.{b}
use Rattle.ident.specs.Ident.{to_snake, to_upper_camel, strip_enum_prefix}
use Rattle.ident.proofs.Table as names
use Rattle.literal.specs.Escape.{escape_text}
use Rattle.literal.specs.Reading.{table_accent}
use Rattle.c_escaping.specs.Unescape.{unescape_c_escape_string}
use Rattle.c_escaping.specs.Default.{table_escape}
use Rattle.options.specs.Settings.{Setting}
use Rattle.extern_paths.specs.ExternPaths.{extern, taken, extern_text}
use Rattle.extern_paths.specs.ExternPaths.{resolve_ident as extern_ident}
use Rattle.extern_paths.proofs.Taken.{table_extern}
use Rattle.code_generator.specs.Piece.{flat}
use Rattle.code_generator.specs.Resolve.{resolve_ident}
use Rattle.code_generator.specs.Examples.{path_from_nested, path_at_top}

-- the two rows about paths hold for all options that don't take the type
pub record ScopeTable : Type 0 where
  pub snake_http_server : to_snake (b "HTTPServer") ≡ b "http_server"
  pub snake_digit : to_snake (b "a1B") ≡ b "a1_b"
  pub snake_last_upper : to_snake (b "XYz") ≡ b "x_yz"
  pub snake_type : to_snake (b "type") ≡ b "r#type"
  pub camel_self : to_upper_camel (b "self") ≡ b "Self_"
  pub camel_one : to_upper_camel (b "_1") ≡ b "_1"
  pub strip_self : strip_enum_prefix (b "Mode") (b "ModeSelf") ≡ b "Self_"
  pub strip_digit : strip_enum_prefix (b "Mode") (b "Mode1") ≡ b "Mode1"
  pub path_from_nested : (rs : List Setting) → taken rs (b ".a.c.T") ≡ false → flat (resolve_ident rs (b ".a.b.M") (b ".a.c.T")) ≡ b "super::super::c::T"
  pub path_at_top : (rs : List Setting) → taken rs (b ".a.b.T") ≡ false → flat (resolve_ident rs (b ".a.b") (b ".a.b.T")) ≡ b "T"
  pub extern_path : extern_text (extern_ident (extern (b ".g") (b "crate::MyMod") ∷ []) (b ".g.In.msg")) ≡ b "crate::my_mod::r#in::Msg"
  pub escape : unescape_c_escape_string (b "\\101\\x0a") ≡ some (0x41 ∷ (0x0A ∷ []))
  pub accent : escape_text (0xC3 ∷ (0xA9 ∷ [])) ≡ b "\\u{e9}"

pub scope_table : ScopeTable
scope_table =
    record {
      snake_http_server = names.snake_http_server;
      snake_digit = names.snake_digit;
      snake_last_upper = names.snake_last_upper;
      snake_type = names.snake_type;
      camel_self = names.camel_self;
      camel_one = names.camel_one;
      strip_self = names.strip_self;
      strip_digit = names.strip_digit;
      path_from_nested = path_from_nested;
      path_at_top = path_at_top;
      extern_path = table_extern;
      escape = table_escape;
      accent = table_accent;
    }
