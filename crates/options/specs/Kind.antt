-- The kinds of rows by their numbers.
use Rattle.std.specs.Prelude.{ℕ, Result, Ok, Err, ◌==◌, if◌then◌else◌}
use Rattle.options.specs.declared.kind.Kind.{Kind}
use Rattle.options.specs.declared.kind.Kind.TheVariants.{ExternPath, Bytes, BtreeMap, Boxed, TypeAttribute, FieldAttribute, MessageAttribute, EnumAttribute, SkipDebug, ProstPath, RetainEnumPrefix, ProstTypes}
use Rattle.options.specs.declared.kind.UnknownKind.{UnknownKind}

abbrev pub kind_number : Kind → ℕ
kind_number ExternPath = 1
kind_number Bytes = 2
kind_number BtreeMap = 3
kind_number Boxed = 4
kind_number TypeAttribute = 5
kind_number FieldAttribute = 6
kind_number MessageAttribute = 7
kind_number EnumAttribute = 8
kind_number SkipDebug = 9
kind_number ProstPath = 10
kind_number RetainEnumPrefix = 11
kind_number ProstTypes = 12

abbrev pub unknown : Result Kind UnknownKind
unknown = Err (record {})

-- the kind with a number, if there is one
unfoldable pub kind_of : ℕ → Result Kind UnknownKind
kind_of n =
    if n == 1 then Ok ExternPath
    else (if n == 2 then Ok Bytes
    else (if n == 3 then Ok BtreeMap
    else (if n == 4 then Ok Boxed
    else (if n == 5 then Ok TypeAttribute
    else (if n == 6 then Ok FieldAttribute
    else (if n == 7 then Ok MessageAttribute
    else (if n == 8 then Ok EnumAttribute
    else (if n == 9 then Ok SkipDebug
    else (if n == 10 then Ok ProstPath
    else (if n == 11 then Ok RetainEnumPrefix
    else (if n == 12 then Ok ProstTypes
    else unknown)))))))))))
